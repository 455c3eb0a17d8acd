-- Machinery.
pub mod Found
