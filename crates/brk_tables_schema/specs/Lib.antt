pub mod Order
pub mod Shapes
pub mod Cells
pub mod Formed
pub mod Desk
pub mod Made
pub mod Statements
pub mod Texts
