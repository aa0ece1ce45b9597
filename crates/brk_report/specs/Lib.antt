pub mod StatementOutput
pub mod CashWalk
pub mod WalkFaults
pub mod StatementParts
pub mod StatementsOutput
