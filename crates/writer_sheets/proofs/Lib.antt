pub mod Sheets
pub mod Trees
