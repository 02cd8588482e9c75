pub mod Round
pub mod Orbits
pub mod Slots
pub mod Rounds
