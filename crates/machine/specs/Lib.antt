-- The definition of the machine. Read in this order; the numbers and the order of refusals are defined in the crate arith, the grid
-- and what each instruction takes in the crate insn.
pub mod Memory
pub mod Answers
pub mod State
pub mod Modes
pub mod Stack
pub mod Operands
pub mod Interrupts
pub mod Execute
pub mod Step
pub mod Run
pub mod Told
