pub mod Chains
pub mod Fielded
pub mod Gathered
pub mod Routes
pub mod Named
pub mod Parts
