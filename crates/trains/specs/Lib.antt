-- When a job of a train is released, if the train has it.
pub mod Releases
