-- Definitions.
pub mod Places
pub mod Grammar
pub mod Input
pub mod Numerals
pub mod Report
pub mod Promise
pub mod Worked
pub mod Stated
-- Laws.
pub mod PieceLaws
pub mod FoundLines
pub mod GoodLines
pub mod Enough
pub mod AnswerLaws
pub mod NumeralLaws
pub mod Bounds
pub mod Whole
pub mod LabelPlaces
pub mod Settled
pub mod ExactlyWhen
pub mod Labelled
pub mod Refused
