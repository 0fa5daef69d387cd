pub mod Source
pub mod Freshness
pub mod Steps
pub mod KeyMatch
pub mod Rows
pub mod Claims
