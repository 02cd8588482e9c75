pub mod Replay
pub mod TestedFirst
pub mod Printed
