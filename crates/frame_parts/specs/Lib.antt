-- Definitions.
pub mod Laying
-- Laws.
pub mod PartLaws
-- Machinery.
pub mod Parts
