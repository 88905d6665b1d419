-- The refusals of a sample by what it read and its raw PV: N7, N8, N12, N13, N14, N9 and N11, in this order (O3).
pub mod Judging
