pub mod CashMoveFigures
pub mod Positions
pub mod Statuses
