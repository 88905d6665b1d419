-- What the exported functions leave beside the desk; their answers and the desk are the desk's own definitions.
pub mod Interface
