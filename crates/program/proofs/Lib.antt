pub mod Emission
pub mod Loans
pub mod Ranges
