pub mod Zero
pub mod Promises
