pub mod Walk
pub mod Opened
pub mod FirstTrigger
