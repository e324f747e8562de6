pub mod RangeFacts
pub mod Decisions
