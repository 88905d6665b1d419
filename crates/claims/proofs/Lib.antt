-- The proofs of the three demands and of what is promised of profiles, of the root, of the setup file, of the transfer, of two formats and of a sample's refusals, and the computed examples that they rest beside: how far the claims reach, and the tables of the crates below.
pub mod Bounds
pub mod Turns
pub mod Calls
pub mod Profiles
pub mod Roots
pub mod Setups
pub mod Demand1
pub mod Demand2
pub mod Demand3
pub mod Transfers
pub mod Causes
pub mod Formats
pub mod Examples
pub mod Tables
