-- Laws of what becomes of an input, and what the exchange's promise tells.
mod Tellable
mod Becomes
pub mod Outcome
pub mod Pipe
