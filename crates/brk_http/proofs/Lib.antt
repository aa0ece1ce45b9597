pub mod Commas
pub mod Acted
pub mod Named
pub mod Serving
