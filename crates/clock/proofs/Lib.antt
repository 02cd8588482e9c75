pub mod Found
pub mod Ticks
pub mod Keeps
