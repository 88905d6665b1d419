-- What the proofs of this crate and of those above it cite besides the laws of specs/, and examples computed.
pub mod Laws
pub mod Machine
pub mod Examples
pub mod Tables
