-- The way back from a spelling. Read in this order: how a line falls apart, the row of its outline, the bytes of a row; which lines have a
-- row; and that a line's address and spelling determine its bytes. Lookup and Slots say how the code does it.
pub mod Outline
pub mod Rows
pub mod Bytes
pub mod Exact
pub mod Determined
pub mod Lookup
pub mod Slots
