-- What a table says of its failing cases.
pub mod Examples
