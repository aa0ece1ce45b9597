pub mod Earlier
pub mod Found
pub mod HoldingParts
pub mod Skipping
