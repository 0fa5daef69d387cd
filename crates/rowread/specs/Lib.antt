pub mod Marks
pub mod Stored
pub mod Steps
pub mod Claims
