pub mod Settled
pub mod Crossings
pub mod Cut
pub mod Keeps
pub mod Turn
pub mod Answers
pub mod OneCall
