pub mod Unbuffered
pub mod Pieces
pub mod Kept
pub mod Printing
