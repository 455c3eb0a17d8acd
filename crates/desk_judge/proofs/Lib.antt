pub mod Fields
pub mod Driving
pub mod Exits
