pub mod Copies
pub mod Mapped
pub mod Refusals
pub mod Replacing
pub mod Triggered
pub mod Volumes
