-- What a reader must believe of nodes and records, in reading order.
pub mod Layout
pub mod Records
pub mod Coded
pub mod Kept
pub mod Meant
