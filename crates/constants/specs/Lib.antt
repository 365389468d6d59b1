-- Constants as text. Read in this order: what a constant is, the constant that a text is, and what is answered of a text. Then how the code
-- judges a text's form and finds its value, which only the promises of functions within the crate cite, and the same by places and totals.
pub mod Constant
pub mod Reading
pub mod Answer
pub mod Theorems
pub mod Forms
pub mod Sums
pub mod Totals
