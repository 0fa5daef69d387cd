pub mod Back
pub mod Rest
