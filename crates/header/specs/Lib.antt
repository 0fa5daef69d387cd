pub mod Header
pub mod WriteHeader
pub mod Types
pub mod Claims
