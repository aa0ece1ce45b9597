pub mod Chains
pub mod Commits
pub mod Damage
