pub mod Keeps
pub mod Triggers
pub mod Rest
pub mod Codes
