-- The carried record (H1 to H5): its ranges, its numbers in the lent buffer; and what a record in range is known to be.
pub mod Layout
pub mod Ranged
pub mod Former
