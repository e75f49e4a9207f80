-- What the calls on standard output tell their callers.
pub mod Known
