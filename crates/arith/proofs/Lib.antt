-- Laws that belong to no one function.
pub mod Width
pub mod Truths
pub mod Laws
pub mod Carries
pub mod Bits
pub mod Refusals
pub mod Numbers
pub mod Unique
