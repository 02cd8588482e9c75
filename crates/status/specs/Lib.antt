pub mod Class
pub mod Codes
pub mod Merge
pub mod Support
