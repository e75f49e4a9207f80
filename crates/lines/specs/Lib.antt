-- What the calls on one line promise.
pub mod Line
