-- The code of every unit is whole.
pub mod WholeTypes
pub mod CalledClasses
pub mod WholeCode
pub mod WholeUnits
