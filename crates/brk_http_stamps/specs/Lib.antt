pub mod Stamped
pub mod Stamps
