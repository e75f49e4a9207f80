-- Laws for the code that reads one field, and for its callers.
pub mod Fields
pub mod Records
pub mod Takers
