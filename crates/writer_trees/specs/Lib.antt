pub mod Places
pub mod Trees
