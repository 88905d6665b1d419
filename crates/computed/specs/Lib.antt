-- Tables of computed cases.
pub mod Cases
