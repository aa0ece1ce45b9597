pub mod Chains
pub mod Items
pub mod Padded
pub mod RunningRows
pub mod Totals
