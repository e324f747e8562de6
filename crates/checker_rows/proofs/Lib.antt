pub mod AllowedValues
pub mod FieldValues
pub mod Truths
