pub mod Run
pub mod Older
pub mod AsBefore
