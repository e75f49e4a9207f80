-- The law of the reader: its promise leaves one outcome.
pub mod Outcome
