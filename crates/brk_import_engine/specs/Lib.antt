pub mod Counts
pub mod Script
pub mod Answers
pub mod Reading
pub mod Batch
pub mod Parts
pub mod RowSteps
