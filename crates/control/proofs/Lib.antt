-- Computed examples of the error, the terms, the two forms and the counts of the output.
pub mod Examples
