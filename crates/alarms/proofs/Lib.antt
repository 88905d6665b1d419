-- Computed examples of the status word.
pub mod Examples
