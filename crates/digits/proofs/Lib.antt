-- Laws that belong to no one function.
pub mod Digits
pub mod Places
pub mod Decimal
pub mod Unique
