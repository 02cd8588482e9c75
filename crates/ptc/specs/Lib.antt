pub mod Cycle
pub mod Fresh
pub mod Crossing
pub mod Command
pub mod Sound
pub mod Support
