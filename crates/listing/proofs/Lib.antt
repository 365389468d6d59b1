-- Laws that belong to no one function.
pub mod Texts
pub mod Writers
pub mod Opcodes
pub mod Bounds
pub mod Order
pub mod Left
pub mod Names
pub mod Short
pub mod Taken
pub mod Whole
pub mod Addresses
pub mod Data
pub mod Room
pub mod Answers
pub mod Example
pub mod Paper
pub mod Unique
