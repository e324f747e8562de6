pub mod TracedLists
pub mod Openings
