pub mod Records
pub mod Rows
pub mod Refusal
pub mod Support
