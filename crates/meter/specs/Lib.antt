pub mod Readings
pub mod Tables
pub mod Reads
pub mod Changes
pub mod Groups
