pub mod Laws
pub mod Ages
pub mod Matches
pub mod RowsLaws
pub mod Tables
pub mod Data
