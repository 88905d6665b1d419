-- What a printed text leaves.
pub mod Printing
