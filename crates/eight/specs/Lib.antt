pub mod Eight
pub mod Orbits
