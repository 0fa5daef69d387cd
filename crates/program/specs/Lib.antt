pub mod Arguments
pub mod Text
