-- Machinery.
pub mod Shown
