-- What a reader must believe of the rules in words.
pub mod Texts
