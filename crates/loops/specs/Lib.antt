-- Laws.
pub mod Scan
