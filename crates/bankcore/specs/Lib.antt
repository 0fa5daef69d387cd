pub mod LeafAnswers
pub mod BankAnswers
pub mod RowAnswers
pub mod Stamp
pub mod Operation
pub mod Claims
