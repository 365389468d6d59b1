-- Laws that belong to no one function.
pub mod Slots
pub mod Parts
pub mod First
pub mod Short
pub mod Outcomes
pub mod Turns
pub mod Places
pub mod Listed
pub mod Back
pub mod Exact
pub mod Faults
pub mod Room
pub mod Unique
