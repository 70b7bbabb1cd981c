-- What a reader must believe of answers and listings as a job hands them over, in reading order.
pub mod Bytes
pub mod Shown
