-- Laws of a row's four stores and of the late job that is held.
pub mod Held
