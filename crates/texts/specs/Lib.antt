-- What the texts of sets drawn promise.
pub mod Texts
