-- What the calls from other languages answer, and what they leave in everything that they are lent. The machine and the saved
-- state are defined in the crates machine and saved.
pub mod Block
pub mod Calls
pub mod Sizes
pub mod Wording
