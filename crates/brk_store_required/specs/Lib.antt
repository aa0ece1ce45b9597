pub mod Required
pub mod Valuation
