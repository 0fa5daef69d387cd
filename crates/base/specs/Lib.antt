pub mod Number
pub mod Lists
pub mod Little
pub mod Same
pub mod Table
pub mod Claims
