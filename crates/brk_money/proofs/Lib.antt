pub mod Calendar
pub mod DayNumbers
pub mod DayTexts
pub mod Digits
pub mod Padded
pub mod Plain
pub mod Printed
pub mod Spellings
