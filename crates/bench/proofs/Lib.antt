-- Laws.
pub mod OrderLaws
pub mod First
pub mod CourseLaws
pub mod RoundLaws
pub mod RowLaws
pub mod Places
pub mod Fates
pub mod Winner
pub mod LineTime
pub mod Counting
pub mod CallLaws
pub mod Readable
pub mod ThroughReads
pub mod Waiting
pub mod WaitingEnds
pub mod RunsOut
pub mod RoundShows
