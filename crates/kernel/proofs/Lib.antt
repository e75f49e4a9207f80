-- Laws for the code that reads the records after a header.
pub mod Stored
pub mod Rows
pub mod Outcomes
