-- Digits in any base, and what they are written with. Read in this order.
pub mod Digits
pub mod Ascii
pub mod Numerals
