pub mod AskedAlike
pub mod NumberedFormulas
pub mod Counts
pub mod Ranges
pub mod Readiness
pub mod ProperFormulas
