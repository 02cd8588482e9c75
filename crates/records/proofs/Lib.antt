pub mod Laws
pub mod Listed
pub mod Chunks
pub mod Laid
pub mod Testing
