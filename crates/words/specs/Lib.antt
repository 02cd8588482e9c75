pub mod Same
pub mod Support
