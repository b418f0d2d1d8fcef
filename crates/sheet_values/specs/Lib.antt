pub mod Drafts
pub mod Events
pub mod Figures
pub mod Headers
pub mod Numbers
pub mod Refusals
