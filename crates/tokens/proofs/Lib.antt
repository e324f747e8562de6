pub mod Parts
pub mod TokenRun
