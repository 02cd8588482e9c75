pub mod Tracking
pub mod Turns
pub mod Answers
