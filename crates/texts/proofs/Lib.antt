-- Laws of one set's text and of the run over several sets, and what the texts' promise tells its callers.
mod OneSet
mod Turns
pub mod Outcome
