-- What the exported functions on drill files answer and leave beside the desk.
pub mod Files
