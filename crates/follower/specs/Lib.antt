pub mod Change
pub mod Support
