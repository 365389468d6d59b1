-- The cases, computed, and held to the paper's numbers.
pub mod Whole
pub mod Twelve
pub mod Agreed
pub mod Example
