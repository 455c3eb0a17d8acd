-- Definitions.
pub mod Texts
