-- The numbers that the engine's definitions are made of. Each subject has its definitions in a file and their laws in `NAME/Laws`.
pub mod Whole
pub mod Limits
pub mod Distances
pub mod Rounding
pub mod Scales
pub mod Roots
pub mod Fractions
