pub mod Order
pub mod Picks
pub mod Layout
pub mod Match
pub mod Claims
pub mod Steps
