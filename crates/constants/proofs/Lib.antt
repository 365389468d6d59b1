-- Laws that belong to no one function.
pub mod Steps
pub mod Worth
pub mod Amounts
pub mod Nesting
pub mod Standing
pub mod Ended
pub mod Levels
pub mod Places
pub mod PlacedTerms
pub mod Small
pub mod Terms
pub mod Spelled
pub mod Complete
pub mod Exact
pub mod Examples
pub mod Unique
