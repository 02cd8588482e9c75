pub mod Opened
pub mod Pieces
pub mod Logs
