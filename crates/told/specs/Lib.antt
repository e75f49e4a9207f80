-- What is told of each answer.
pub mod Sayings
