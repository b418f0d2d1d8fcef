pub mod Joining
pub mod Measuring
