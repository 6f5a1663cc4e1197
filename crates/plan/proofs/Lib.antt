pub mod Facts
pub mod Growth
pub mod Hops
pub mod Passed
