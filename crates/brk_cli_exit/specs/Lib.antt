pub mod Sinks
pub mod Lines
pub mod Ending
