pub mod Bounds
pub mod Estimating
pub mod Results
