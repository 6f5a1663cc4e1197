pub mod Between
pub mod Coherence
pub mod Conditions
pub mod Landing
pub mod Loads
pub mod Moments
pub mod Rules
