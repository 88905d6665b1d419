-- The PV of a sample, from its raw PV (A1).
pub mod Measuring
