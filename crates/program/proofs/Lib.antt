pub mod Search
pub mod Writes
pub mod Digits
