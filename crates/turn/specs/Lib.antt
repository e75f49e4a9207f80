-- What the counters stand for, and which job is next.
pub mod Counters
