mod By
mod Equal
mod Lowered
mod Older
pub mod AsBefore
