-- Theorems about the records of a file, beside the laws of specs/.
pub mod Laws
pub mod Examples
