-- A line that was put together is what is written of its buffer.
pub mod Lines
