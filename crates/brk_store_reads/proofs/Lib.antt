pub mod Retelling
pub mod Sequences
pub mod ReadResults
pub mod ByAges
pub mod WholeTables
