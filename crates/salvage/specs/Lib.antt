pub mod Mending
pub mod Changes
pub mod Laid
pub mod Salvage
