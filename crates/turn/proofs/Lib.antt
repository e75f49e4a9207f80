-- Laws of the counters: what they stand for at first, the walk that finds the next job, and what is left once it has started.
pub mod Fresh
pub mod Walk
pub mod Started
