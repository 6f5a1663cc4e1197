pub mod Rows
pub mod Runs
pub mod Sheets
pub mod Fitting
