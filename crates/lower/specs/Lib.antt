pub mod Lower
pub mod Appended
pub mod Sources
