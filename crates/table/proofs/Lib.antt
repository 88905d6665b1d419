-- Single words computed.
pub mod Examples
