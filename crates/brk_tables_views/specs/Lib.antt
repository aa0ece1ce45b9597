pub mod Lists
pub mod Walk
pub mod Walks
pub mod Calling
