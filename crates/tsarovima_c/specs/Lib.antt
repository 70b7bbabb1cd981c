-- What a reader must believe of the calls for other languages. What a job and a record promise stands in `jobs`.
pub mod Lent
