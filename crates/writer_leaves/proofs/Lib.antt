pub mod Descents
pub mod Attempts
pub mod Roots
