pub mod Keeping
pub mod Projected
pub mod Runs
pub mod Serving
