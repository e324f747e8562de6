pub mod Shapes
pub mod Sightings
