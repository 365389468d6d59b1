-- The listing: bytes as text. Read in this order: the first three are the definition, the next three what the code's inner contracts
-- cite, and the last has the spellings as the reference prints them.
pub mod Spelling
pub mod Lines
pub mod Answer
pub mod Written
pub mod Forms
pub mod Left
pub mod Paper
