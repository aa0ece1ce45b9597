pub mod Answers
pub mod Fields
pub mod Records
pub mod Rows
pub mod Utf8
