pub mod Bytes
pub mod Decimal
pub mod Number
pub mod Lines
pub mod Support
