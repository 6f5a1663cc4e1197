pub mod Kept
pub mod Seeking
