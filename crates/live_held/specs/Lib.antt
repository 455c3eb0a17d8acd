-- Definitions.
pub mod Held
-- Laws.
pub mod HeldLaws
-- Machinery.
pub mod Reader
