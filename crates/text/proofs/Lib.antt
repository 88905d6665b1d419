-- Digits computed of the definitions.
pub mod Examples
pub mod Tables
