pub mod Applied
pub mod FieldLists
pub mod Limits
pub mod Lists
mod Moments
pub mod Texts
