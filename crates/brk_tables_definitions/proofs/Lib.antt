pub mod Written
pub mod Shapes
pub mod Laid
pub mod Desks
