-- What is taken for a number.
pub mod Word
