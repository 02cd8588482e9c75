pub mod Scan
pub mod Store
pub mod Keep
pub mod Read
pub mod Recall
pub mod Support
