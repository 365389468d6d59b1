-- What the proofs share, and laws about the definition.
pub mod Texts
pub mod Ends
pub mod Fits
pub mod Unique
