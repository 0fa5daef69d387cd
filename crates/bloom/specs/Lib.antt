pub mod Bloom
pub mod Positions
pub mod Claims
