pub mod Putting
pub mod Leaving
pub mod Once
