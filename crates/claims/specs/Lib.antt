-- The client's three demands, and what is promised of profiles, of the root, of the setup file, of the transfer to Cascade and of two formats, and which number a sample is refused with, each a type
-- whose proof stands beside it in proofs/. They speak of the definitions that the contracts of the exported calls cite: any lent words, any lent numbers, any lengths.
pub mod Words
pub mod Turns
pub mod Calls
pub mod Profiles
pub mod Roots
pub mod Setups
pub mod Demand1
pub mod Demand2
pub mod Demand3
pub mod Transfers
pub mod Formats
pub mod Causes
