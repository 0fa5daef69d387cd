pub mod Numbers
pub mod Laws
pub mod Steps
pub mod Remainder
pub mod Shift
pub mod Checksum
