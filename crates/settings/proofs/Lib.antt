pub mod Found
mod Stamps
mod Ranges
pub mod Passed
pub mod Lows
pub mod Bounds
pub mod Standard
