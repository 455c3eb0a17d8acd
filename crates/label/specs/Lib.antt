-- Definitions.
pub mod Labels
