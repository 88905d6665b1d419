-- Setup files computed of the definitions.
pub mod Laws
pub mod Examples
