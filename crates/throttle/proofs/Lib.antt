mod Bits
pub mod Ring
mod Words
pub mod Sound
pub mod Windows
pub mod Refuser
pub mod Refusals
pub mod Instances
