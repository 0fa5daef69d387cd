pub mod Bits
pub mod Sums
pub mod Runs
pub mod Found
pub mod Calls
