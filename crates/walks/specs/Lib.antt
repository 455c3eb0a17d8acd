-- Laws.
pub mod Walk
pub mod Handing
