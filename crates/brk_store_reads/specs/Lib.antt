pub mod ReadSequences
pub mod RowsByAge
pub mod RowsOfAccounts
