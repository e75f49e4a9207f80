-- What the program's output promises.
pub mod Output
