-- What the calls on a header promise.
pub mod Within
pub mod Headers
