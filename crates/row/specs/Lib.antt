-- What is held of the rows so far.
pub mod Lateness
