pub mod Decoding
pub mod Ground
pub mod Beams
pub mod Seen
