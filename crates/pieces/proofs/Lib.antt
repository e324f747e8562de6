pub mod Pieces
pub mod Tokens
pub mod Tests
pub mod Contrasts
