-- Definitions.
pub mod Register
pub mod BitByBit
-- Laws.
pub mod Residue
pub mod Xor
pub mod Differ
pub mod BitByBitLaws
