pub mod Arms
pub mod Asked
pub mod Copying
pub mod Reading
pub mod Once
