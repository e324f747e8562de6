pub mod Numbers
pub mod Outcomes
pub mod Words
