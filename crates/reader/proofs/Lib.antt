pub mod Chain
pub mod Heads
pub mod Promises
