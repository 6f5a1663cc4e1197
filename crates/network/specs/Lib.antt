pub mod Bound
pub mod Networks
pub mod OnTime
pub mod Schedules
pub mod Slacks
pub mod Steps
