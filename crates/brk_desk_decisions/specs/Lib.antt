pub mod Estimates
pub mod OrderFactReads
pub mod LotReads
pub mod ResultFactReads
