-- The routines do what is promised of them. From the bottom up: Stepping to Tail serve any routine of this kind, Turn and Loop the
-- adding routine, Adding has the theorem, and Example and Edges show that its premises can be met, as far as they reach.
pub mod Stepping
pub mod Runs
pub mod Opcodes
pub mod Registers
pub mod Digits
pub mod Fields
pub mod Tail
pub mod Turn
pub mod Loop
pub mod Adding
pub mod Example
pub mod Edges
