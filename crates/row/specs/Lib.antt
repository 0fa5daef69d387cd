pub mod Columns
pub mod Write
pub mod Steps
pub mod Claims
