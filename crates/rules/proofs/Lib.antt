pub mod Chains
pub mod Disciplines
pub mod Flights
pub mod Goes
pub mod Inside
pub mod Landing
pub mod Waits
