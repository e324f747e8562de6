pub mod FixedValues
