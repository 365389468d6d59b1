-- The cases that document 01 wants proved together, and its worked example.
pub mod Case
pub mod Twelve
pub mod Paper
pub mod Agreed
pub mod Example
