pub mod Layout
pub mod Reader
pub mod Fields
pub mod Faults
pub mod Guarantees
pub mod Lengths
