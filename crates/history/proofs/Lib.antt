pub mod Content
pub mod Scans
pub mod Groups
pub mod Keeps
pub mod Pens
pub mod Recall
pub mod Alike
