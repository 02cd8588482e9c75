pub mod Reading
pub mod Exact
pub mod Balanced
pub mod Tuning
