pub mod Eight
pub mod Sound
pub mod Orbits
