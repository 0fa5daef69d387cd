pub mod Upper
pub mod Sizes
