-- Machinery.
pub mod Answered
