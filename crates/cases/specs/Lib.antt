pub mod Hex
pub mod Decoding
