pub mod Printed
pub mod Asked
