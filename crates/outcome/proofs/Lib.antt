pub mod Uniqueness
