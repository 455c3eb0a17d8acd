-- Definitions.
pub mod Stations
pub mod Order
pub mod Course
pub mod Round
pub mod Calls
pub mod Promise
pub mod Histories
pub mod Worked
pub mod RoundStated
pub mod WaitStated
-- Laws.
pub mod LineLaws
pub mod Difference
pub mod Taken
pub mod RowShows
pub mod RowSettled
pub mod RowExactlyWhen
pub mod RoundSettled
pub mod RoundExactlyWhen
pub mod HistoryLaws
