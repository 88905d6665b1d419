-- The plain loop computed beside the engine.
pub mod Laws
pub mod Examples
pub mod Tables
