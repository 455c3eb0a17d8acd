-- Laws.
pub mod RoundOutcomes
pub mod PlayedSettled
-- Machinery.
pub mod Rounds
pub mod Playing
