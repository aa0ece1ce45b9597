pub mod Adopted
pub mod Numbers
pub mod Visits
pub mod Walked
pub mod Pages
pub mod Indexed
pub mod RemainingLots
