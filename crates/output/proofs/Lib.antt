-- Laws of the run over the sets, and what the output's promise tells its callers.
mod Turns
pub mod Outcome
