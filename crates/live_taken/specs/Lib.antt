-- Laws.
pub mod TakenLaws
-- Machinery.
pub mod Taken
