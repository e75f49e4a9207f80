-- Laws for the code that reads one line.
pub mod Searches
