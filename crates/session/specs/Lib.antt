-- A drill file carried out on a desk; and what is printed of it.
pub mod Session
pub mod Printed
