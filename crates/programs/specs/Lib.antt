-- What is read, and what is told of a failure.
pub mod Names
pub mod Reads
pub mod Told
