-- The settings at their edges, computed.
pub mod Examples
pub mod Tables
