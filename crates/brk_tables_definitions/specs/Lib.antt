pub mod Definitions
pub mod Written
