-- M7, A5, A7, A8 and A9 on plain values.
pub mod Counts
pub mod Errors
pub mod Terms
pub mod Forms
pub mod Premises
