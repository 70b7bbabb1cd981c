-- What a reader must believe of a job's header: the refusals 16 to 22.
pub mod Header
