pub mod Names
pub mod Lows
pub mod Relations
pub mod Check
pub mod Standard
pub mod Support
