-- The words of a loop (W1 to W5), formats (M3) and modes (M4).
pub mod Words
pub mod Modes
