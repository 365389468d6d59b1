-- Laws that belong to no one function, and what every promise determines.
pub mod Blocks
pub mod Flags
pub mod Images
pub mod Unchanged
pub mod Unnamed
pub mod Unique
