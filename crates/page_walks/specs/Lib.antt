pub mod Walk
pub mod Grid
pub mod Sizes
pub mod Search
pub mod Shortest
pub mod Nearness
