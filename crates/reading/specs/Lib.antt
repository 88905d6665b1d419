-- What a sample reads of the words (Q9): a loop's settings (M1, M2), its ramp/soak program (G1, G2), the transfer (A13), and all of it (A2, A3).
pub mod Settings
pub mod Programs
pub mod Transfers
pub mod Reading
pub mod Premises
