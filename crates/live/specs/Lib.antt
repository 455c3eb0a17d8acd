-- Definitions.
pub mod Promise
pub mod Hearing
pub mod Shown
pub mod Stated
-- Laws.
pub mod Settled
pub mod Opening
pub mod Taking
pub mod Asking
pub mod Worked
-- Machinery.
pub mod Feeding
