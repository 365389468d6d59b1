-- Laws that belong to no one function.
pub mod CodesBack
pub mod Blocks
pub mod Accepted
pub mod Refused
pub mod Written
pub mod RoundTrip
pub mod Told
pub mod Unique
