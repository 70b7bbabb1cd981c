pub mod Respects
pub mod ClosedOnce
pub mod Solving
pub mod Finiteness
pub mod FromTable
pub mod Listed
pub mod Few
