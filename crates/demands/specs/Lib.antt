-- What a reader must believe of the demands beside what the calls promise: the words of the demands, chains of calls,
-- and what demand 3 asks of them.
pub mod Words
pub mod Chains
pub mod Kinds
