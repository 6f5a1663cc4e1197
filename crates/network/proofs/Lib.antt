pub mod Bound
pub mod Cases
pub mod Exchange
pub mod Hops
pub mod OnTime
pub mod Slacks
pub mod Steps
