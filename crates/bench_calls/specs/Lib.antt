-- Laws.
pub mod ChangeLaws
pub mod ChangeSettled
-- Machinery.
pub mod Changes
