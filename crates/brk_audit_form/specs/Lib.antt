pub mod Conditions
pub mod Keys
pub mod Customers
pub mod Names
pub mod Groups
