pub mod Numbers
pub mod Wrote
