pub mod History
pub mod Machine
pub mod Claim
pub mod Instances
pub mod Ranges
pub mod Operations
pub mod UpperInstances
