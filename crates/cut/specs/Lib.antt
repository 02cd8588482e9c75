pub mod Blocks
pub mod Program
