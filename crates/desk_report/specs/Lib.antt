-- Machinery.
pub mod Laying
pub mod Reporting
