-- The status word (B1 to B8), and the word as the code sums it.
pub mod Status
pub mod Sums
