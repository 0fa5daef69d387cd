pub mod Register
pub mod Pending
pub mod Shift
pub mod Words
