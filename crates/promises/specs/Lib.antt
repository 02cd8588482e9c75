pub mod Refusals
pub mod WholeLog
pub mod Stopped
pub mod Salvaged
pub mod Promises
