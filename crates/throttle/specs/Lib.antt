pub mod Marks
pub mod Sound
pub mod Rules
pub mod Windows
pub mod Ring
