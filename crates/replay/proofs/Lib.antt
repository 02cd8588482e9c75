pub mod Laws
pub mod TestedFirst
