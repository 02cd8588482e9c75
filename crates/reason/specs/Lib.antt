pub mod Reason
pub mod Support
