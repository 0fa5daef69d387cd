pub mod Flash
pub mod Claims
