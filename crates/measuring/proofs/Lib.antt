-- The PV computed.
pub mod Examples
