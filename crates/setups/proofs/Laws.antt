-- What follows from the definitions, proved once and cited by name: here, and not in specs/, where a wrong version edits the definition.
pub mod Setup
