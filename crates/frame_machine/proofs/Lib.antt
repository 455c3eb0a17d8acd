-- Laws.
pub mod BitDoes
pub mod CloseDoes
pub mod StepDoes
pub mod Following
pub mod Keeping
pub mod Space
