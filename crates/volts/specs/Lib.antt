-- Definitions.
pub mod Judging
pub mod Levels
pub mod Intervals
pub mod Promise
pub mod Worked
pub mod Stated
-- Laws.
pub mod Settled
pub mod ExactlyWhen
pub mod Somewhere
pub mod IntervalLaws
pub mod Expansion
