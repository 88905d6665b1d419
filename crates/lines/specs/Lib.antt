-- The lines that are printed of a drill file (L9, L10), and how wide they are.
pub mod Lines
pub mod Widths
