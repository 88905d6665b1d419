-- The C interface on profiles.
pub mod Told
