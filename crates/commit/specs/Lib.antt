pub mod Commit
pub mod Unchanged
