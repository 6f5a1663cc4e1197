pub mod Asking
pub mod Offsets
pub mod Recordings
pub mod Sealing
pub mod Slots
pub mod Steps
