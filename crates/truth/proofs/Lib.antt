pub mod Cells
pub mod Runs
pub mod Spares
