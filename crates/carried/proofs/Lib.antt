-- What the proofs of this crate's functions share, and the record computed.
pub mod Numbers
pub mod Rows
pub mod Examples
