pub mod Showing
pub mod Steps
pub mod Balance
pub mod Exact
pub mod Tuning
