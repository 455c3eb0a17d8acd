-- Definitions.
pub mod RecordingOn
-- Laws.
pub mod BitLaws
pub mod StandingLaws
pub mod WidthLaws
pub mod ShownLaws
pub mod FaultLaws
pub mod Decided
pub mod Outcomes
pub mod ReadSettled
pub mod ReadExactlyWhen
pub mod WriteExactlyWhen
pub mod Moved
pub mod ByteLaws
pub mod Passing
pub mod Parts
pub mod WordLaws
pub mod ReadBack
pub mod WrittenBack
pub mod Spelled
pub mod Again
pub mod RoundTrip
pub mod TwoCalls
pub mod Longer
