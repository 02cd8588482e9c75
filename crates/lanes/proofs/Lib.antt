mod Eight
mod Tops
mod Words
pub mod Laws
