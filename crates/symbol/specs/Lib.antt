-- Definitions.
pub mod Classes
pub mod Clocks
pub mod Sending
-- Laws.
pub mod ClassLaws
pub mod SendingLaws
