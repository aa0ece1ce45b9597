pub mod Unknown
pub mod Joined
mod Days
