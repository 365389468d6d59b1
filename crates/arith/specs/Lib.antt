-- The numbers of the machine: what its bytes, words and flags are and how they are reckoned with; and the order of refusals.
-- Read in this order.
pub mod Width
pub mod Flags
pub mod Flagged
pub mod Bytes
pub mod Rotates
pub mod Decimal
pub mod Words
pub mod Refusals
pub mod Numbers
