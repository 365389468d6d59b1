-- A run is its steps, and the run of the adding routine adds: of the definition, and of what `machine::run::run` promises.
pub mod Stepwise
pub mod One
pub mod Promised
