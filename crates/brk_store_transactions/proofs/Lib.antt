pub mod Adoption
pub mod Answering
pub mod Closing
mod Compiling
pub mod Defined
pub mod Ending
pub mod Found
pub mod KeptTexts
pub mod Making
pub mod Schemas
pub mod States
pub mod Taking
pub mod Telling
pub mod Texts
