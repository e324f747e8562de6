pub mod ShownRows
pub mod ShownFormulas
