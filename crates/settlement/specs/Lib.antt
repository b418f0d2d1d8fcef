pub mod Checks
pub mod Month
pub mod Worked
