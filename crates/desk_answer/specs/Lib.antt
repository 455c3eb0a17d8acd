-- Definitions.
pub mod Shown
-- Laws.
pub mod HexLaws
