-- What a reader must believe of records put one after the other, in reading order. Answers as bytes stand in `formats`.
pub mod Leaving
pub mod Putting
