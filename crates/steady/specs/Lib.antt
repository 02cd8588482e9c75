pub mod Steady
pub mod Held
pub mod Support
