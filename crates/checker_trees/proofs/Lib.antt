pub mod Halves
pub mod NodeReading
pub mod NoFact
