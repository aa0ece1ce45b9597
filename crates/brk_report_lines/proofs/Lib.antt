pub mod Composed
pub mod Cut
pub mod DayStamps
