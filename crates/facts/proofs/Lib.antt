pub mod RangeFacts
pub mod Places
