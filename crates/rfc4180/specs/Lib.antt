pub mod Csv
pub mod Write
pub mod Read
pub mod Claims
