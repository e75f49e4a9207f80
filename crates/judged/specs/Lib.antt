-- What is found of the first set of a text.
pub mod First
