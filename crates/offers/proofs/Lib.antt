pub mod Children
pub mod Joining
