pub mod Upgrade
pub mod UpgradeStatements
