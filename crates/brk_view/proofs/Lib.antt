pub mod Joined
pub mod OneMore
