pub mod Columns
pub mod Numbers
pub mod Rows
pub mod Trees
