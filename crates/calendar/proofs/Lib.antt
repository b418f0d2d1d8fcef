pub mod Laws
pub mod Table
pub mod Reading
pub mod Facts
