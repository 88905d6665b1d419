-- Theorems about an accepted sample: its output word (E2), the worked loop with one setting changed (X1 to X3), and every rule of section 6 by cases.
pub mod Laws
pub mod Limits
pub mod Runs
pub mod Starred
pub mod StarredTable
pub mod Examples
