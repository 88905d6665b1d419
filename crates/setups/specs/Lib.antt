-- The setup file of a desk's words, and what its writer answers and leaves.
pub mod Setup
