pub mod Read
pub mod Texts
pub mod Write
pub mod Support
