pub mod Estimates
pub mod Orders
pub mod Outcomes
pub mod Results
