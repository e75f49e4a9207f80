-- Laws for the code that reads a header.
pub mod Names
pub mod Noting
pub mod Columns
