pub mod RowCalls
pub mod Laws
pub mod KeyedRows
pub mod Names
pub mod Positions
pub mod Texts
pub mod FormParts
