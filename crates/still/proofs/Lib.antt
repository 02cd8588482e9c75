pub mod Passing
pub mod Seen
pub mod Acting
