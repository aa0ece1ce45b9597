pub mod Arguments
pub mod Requested
