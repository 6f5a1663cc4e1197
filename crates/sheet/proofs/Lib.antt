pub mod Made
pub mod Once
pub mod Rows
pub mod Totals
