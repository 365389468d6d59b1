-- What the proofs of this crate share, and laws about its definitions for the crates above.
pub mod Last
pub mod Told
pub mod Entries
pub mod Laws
pub mod Sound
pub mod Halts
pub mod Unique
