mod Laws
mod Groups
pub mod Padding
