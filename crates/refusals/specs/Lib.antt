-- The refusals, their numbers, and which of several is reported.
pub mod Refusals
pub mod Decides
