pub mod Parts
pub mod Fitting
pub mod Telling
pub mod Blocks
pub mod Recall
