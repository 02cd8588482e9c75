pub mod Input
pub mod Bounce
