-- Definitions.
pub mod Lane
-- Laws.
pub mod LaneLaws
