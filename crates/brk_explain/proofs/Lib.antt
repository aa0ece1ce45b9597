pub mod Explained
pub mod FirstLines
pub mod RunningWalked
pub mod Words
