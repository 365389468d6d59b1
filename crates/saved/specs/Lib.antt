-- The definition of the saved state. Read in this order; the state itself is defined in the crate machine.
pub mod Codes
pub mod Block
pub mod Head
pub mod Refusals
pub mod Answers
