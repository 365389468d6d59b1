-- What is promised of whole runs.
pub mod Stepwise
pub mod Outcome
