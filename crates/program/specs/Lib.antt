pub mod Meanings
pub mod Built
pub mod Lent
pub mod Compiled
