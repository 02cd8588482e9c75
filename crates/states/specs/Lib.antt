pub mod Names
pub mod Moves
pub mod Commands
pub mod Sound
pub mod Support
