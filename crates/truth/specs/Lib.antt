pub mod Bytes
pub mod Spares
pub mod Values
