pub mod Known
pub mod Opening
mod Reading
pub mod Laid
mod Writing
pub mod RoundTrip
pub mod Prefix
pub mod Fits
pub mod Standard
