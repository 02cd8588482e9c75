pub mod Row
pub mod Beam
pub mod Whole
