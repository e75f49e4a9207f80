-- What is promised of a telling.
pub mod Gives
