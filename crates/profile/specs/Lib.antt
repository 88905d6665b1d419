-- The ramp/soak profile: what moves it (G4 to G9), word 27 (G10), a sample of it whole, and the forecast (G12).
pub mod Moves
pub mod Flags
pub mod Samples
pub mod Forecasts
pub mod Premises
