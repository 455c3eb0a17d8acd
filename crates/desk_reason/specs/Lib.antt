-- Definitions.
pub mod Reasons
