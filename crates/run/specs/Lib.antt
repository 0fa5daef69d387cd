pub mod Run
pub mod Appends
pub mod PartsRun
