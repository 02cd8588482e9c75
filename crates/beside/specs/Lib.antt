pub mod Changes
pub mod Beside
pub mod Support
