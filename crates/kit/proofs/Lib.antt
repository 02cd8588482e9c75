pub mod Settled
pub mod Busy
pub mod Plans
mod Tables
