pub mod Options
pub mod Ordered
