-- How much room lines take.
pub mod Widths
