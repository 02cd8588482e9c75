pub mod Holds
pub mod Bounce
pub mod Sample
