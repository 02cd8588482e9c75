pub mod Counts
pub mod Sound
pub mod Support
