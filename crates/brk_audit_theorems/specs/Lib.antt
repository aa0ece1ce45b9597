pub mod Passing
pub mod Upgrade
pub mod Histories
pub mod Sound
pub mod InForm
pub mod Runs
