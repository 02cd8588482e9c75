mod Places
pub mod Parts
pub mod Lines
pub mod Writing
