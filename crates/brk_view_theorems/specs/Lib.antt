pub mod Before
pub mod Closings
pub mod Balances
pub mod Gains
pub mod Equations
pub mod ReplyFigures
pub mod UnchangedFigures
pub mod Brokers
