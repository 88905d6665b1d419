-- What a session's loops keep; and the lines of the worked loop (X1), computed.
pub mod Loops
pub mod Worked
