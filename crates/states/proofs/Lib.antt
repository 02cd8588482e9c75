pub mod Keeps
pub mod Rest
pub mod Orbits
