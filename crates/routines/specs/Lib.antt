-- What is promised of the decimal routines. Read in this order.
pub mod Decimals
pub mod Steps
pub mod Premises
pub mod Adding
pub mod Example
pub mod Edges
