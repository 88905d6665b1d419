-- One accepted sample from its PV (A2 to A12): what is sensed, what moves the output, what is written, and the sample whole.
pub mod Sensing
pub mod Driving
pub mod Writing
pub mod Steps
pub mod Premises
