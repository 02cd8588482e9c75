pub mod Clock
pub mod Turn
pub mod Support
