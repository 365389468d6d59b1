-- How a spelling is read back, and that it determines the bytes. Read in this order: the laws of lines, of the table and of instructions;
-- then those that the code's proofs rest on.
pub mod Outline
pub mod Spelled
pub mod Table
pub mod Exact
pub mod Constants
pub mod Recovered
pub mod Determined
pub mod Looked
pub mod Slotted
pub mod Bounds
pub mod Fallen
pub mod Passed
pub mod Named
pub mod Unique
