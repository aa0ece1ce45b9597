pub mod CallOutcomes
pub mod Served
