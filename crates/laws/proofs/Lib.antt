pub mod Tests
pub mod Bools
pub mod All
pub mod First
pub mod Over
pub mod Highest
pub mod Maps
