-- Definitions.
pub mod Widths
