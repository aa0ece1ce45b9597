pub mod Moves
pub mod Heads
pub mod FieldFactUpdates
pub mod FirstRequests
