pub mod Entries
pub mod Lines
pub mod Queued
pub mod Chosen
pub mod Passed
