pub mod Laws
mod Moves
mod Places
pub mod Rising
