-- Laws.
pub mod SurveyLaws
pub mod Whole
-- Machinery.
pub mod Surveys
pub mod HeldRows
