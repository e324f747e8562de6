pub mod WrittenSheets
