pub mod Laying
pub mod Parts
pub mod Answering
pub mod Driving
pub mod Wholes
