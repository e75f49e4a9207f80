-- The words for what is wrong.
pub mod Wording
