pub mod Doing
pub mod Faithful
