pub mod Bytes
pub mod Decimal
pub mod Reading
pub mod Rows
pub mod OneLine
pub mod Tables
pub mod Walk
pub mod Known
