pub mod Report
pub mod Fits
