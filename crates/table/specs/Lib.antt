pub mod Elements
pub mod Kinds
pub mod Order
pub mod Lexical
