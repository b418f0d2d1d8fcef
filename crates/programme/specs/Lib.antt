pub mod Bounds
pub mod Formulas
pub mod Meaning
pub mod Programmes
pub mod Amounts
pub mod Orders
pub mod Rounding
