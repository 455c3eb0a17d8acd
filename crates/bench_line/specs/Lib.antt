-- Definitions.
pub mod Contending
pub mod Stated
-- Laws.
pub mod Lanes
pub mod SeatLaws
pub mod LoopLaws
pub mod Sending
pub mod Entries
pub mod EntryLaws
pub mod ContendLaws
