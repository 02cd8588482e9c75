pub mod Kit
pub mod View
pub mod Support
