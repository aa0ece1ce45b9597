pub mod Ages
pub mod Groups
pub mod Index
pub mod Parts
pub mod Prices
pub mod ByKey
pub mod Terms
pub mod IfMade
