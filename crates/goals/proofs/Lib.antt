pub mod Tightening
pub mod Stacks
pub mod AskedInstructions
