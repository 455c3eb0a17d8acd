-- Definitions.
pub mod Starred
