pub mod Asking
pub mod Held
pub mod Meanings
pub mod Once
pub mod Parts
pub mod Sizes
