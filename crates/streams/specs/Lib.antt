-- What a call of `read` or `write` came to, and a count of bytes.
pub mod Counts
pub mod Steps
