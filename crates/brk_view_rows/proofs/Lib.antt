pub mod ById
pub mod Distinct
pub mod Kept
pub mod Named
pub mod Names
pub mod Putting
pub mod Shown
pub mod Distinctly
