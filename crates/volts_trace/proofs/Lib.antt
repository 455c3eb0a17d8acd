pub mod Scanning
pub mod Changing
pub mod Turns
pub mod Rules
pub mod Usable
mod Exits
