-- Definitions.
pub mod Meant
pub mod Rules
-- Laws.
pub mod Settled
pub mod Tests
pub mod RuleLaws
pub mod Each
pub mod Lent
