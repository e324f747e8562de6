pub mod Grounds
pub mod Mapped
