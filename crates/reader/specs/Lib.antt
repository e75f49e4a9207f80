-- That what the reader promises leaves one outcome.
pub mod Reader
