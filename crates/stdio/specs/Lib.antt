-- What the calls on standard input promise.
pub mod Input
