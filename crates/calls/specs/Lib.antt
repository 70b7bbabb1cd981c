-- What a reader must believe of the calls on a state by value, in reading order. What the calls promise stands in `types`.
pub mod Values
pub mod Handed
