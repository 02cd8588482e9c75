pub mod AnyTime
pub mod Figures
