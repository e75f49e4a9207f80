-- What the calls on one field promise.
pub mod Fields
pub mod Takers
