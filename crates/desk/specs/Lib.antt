-- The desk: each call's answer and what it leaves; and lists of calls with the plain loop beside them.
pub mod Desk
pub mod Lists
