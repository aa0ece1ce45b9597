pub mod Audited
pub mod AuditResult
pub mod Holds
