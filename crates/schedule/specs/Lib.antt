pub mod Chains
pub mod Heads
pub mod Images
pub mod Marking
pub mod Gathering
pub mod Reading
pub mod Contents
