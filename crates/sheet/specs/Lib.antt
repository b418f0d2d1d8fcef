pub mod Settling
pub mod Sheets
pub mod Reading
