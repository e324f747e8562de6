pub mod Bridge
pub mod Machine
pub mod Stores
