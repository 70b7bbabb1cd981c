-- What a reader must believe of types, in reading order.
pub mod Types
pub mod Finite
pub mod General
pub mod Endless
pub mod Listing
