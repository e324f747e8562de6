pub mod Totals
pub mod VisibleColumns
