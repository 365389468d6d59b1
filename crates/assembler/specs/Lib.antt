-- The assembler: lines of spelling as bytes. Read in this order: the ranges of values, a line, a text of lines; then what the
-- code's inner contracts cite, and the same by value.
pub mod Ranges
pub mod Lines
pub mod Text
pub mod Judging
pub mod Judged
pub mod Back
pub mod Exact
pub mod Faults
