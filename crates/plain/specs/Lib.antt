-- The exact loop of E3 beside the engine, here called the plain loop: its arithmetic in fractions, and the loop itself.
pub mod Exact
pub mod Plain
pub mod Premises
