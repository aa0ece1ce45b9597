pub mod Moments
pub mod Span
pub mod Calls
pub mod Faults
pub mod Readings
