-- A profile computed.
pub mod Laws
pub mod Examples
pub mod Tables
