pub mod CrashTables
pub mod Rows
pub mod Retries
