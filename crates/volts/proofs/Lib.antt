pub mod Finiteness
