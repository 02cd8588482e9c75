pub mod OnePass
pub mod Support
