pub mod Bank
pub mod Turns
pub mod Claims
