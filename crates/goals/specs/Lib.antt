pub mod Closures
pub mod Goals
