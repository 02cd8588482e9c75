pub mod Told
pub mod Recall
