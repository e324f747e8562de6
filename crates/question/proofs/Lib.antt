pub mod Guaranteed
