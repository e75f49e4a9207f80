-- Laws of the sentences.
pub mod Sentences
