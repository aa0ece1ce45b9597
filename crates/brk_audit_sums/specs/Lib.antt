pub mod AccountTerms
pub mod Completed
pub mod Conditions
pub mod PositionSums
pub mod Settling
pub mod Sums
pub mod Tally
