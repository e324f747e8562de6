pub mod Chain
pub mod Run
