pub mod Crossing
pub mod Command
pub mod Run
pub mod Sound
pub mod Fresh
pub mod Block
pub mod Support
