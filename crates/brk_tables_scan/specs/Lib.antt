pub mod Schemas
pub mod Headings
pub mod KeptKeys
pub mod Whole
pub mod Raw
pub mod Decoded
pub mod Present
