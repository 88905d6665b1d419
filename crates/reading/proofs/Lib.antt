-- What a sample reads, computed.
pub mod Laws
pub mod Examples
pub mod Tables
