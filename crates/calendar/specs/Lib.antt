pub mod Months
pub mod Weekdays
pub mod Moments
pub mod Texts
pub mod Worked
