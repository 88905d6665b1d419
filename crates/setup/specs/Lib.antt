-- What the program `setup` writes.
pub mod Handing
