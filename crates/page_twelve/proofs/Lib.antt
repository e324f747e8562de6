pub mod Spans
pub mod Tables
pub mod Sheets
pub mod WrittenSheets
