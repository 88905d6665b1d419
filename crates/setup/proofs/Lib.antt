-- What is written of a drill file.
pub mod Written
