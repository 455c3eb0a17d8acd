-- Definitions.
pub mod Holding
pub mod Stated
-- Laws.
pub mod Meaning
pub mod HoldingLaws
pub mod ResidueLaws
pub mod Does
-- Machinery.
pub mod Steps
