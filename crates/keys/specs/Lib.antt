pub mod Settings
pub mod Report
pub mod Keys
pub mod Support
