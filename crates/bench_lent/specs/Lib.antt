-- Laws.
pub mod Padding
pub mod Lent
pub mod LentRound
-- Machinery.
pub mod Restoring
