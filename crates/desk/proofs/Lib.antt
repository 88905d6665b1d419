-- What a cleared buffer keeps; demand 3 of a list of calls; and a list computed.
pub mod Laws
pub mod Accuracy
pub mod Examples
pub mod Tables
