pub mod Changes
pub mod Sheets
pub mod Chosen
pub mod Schemas
