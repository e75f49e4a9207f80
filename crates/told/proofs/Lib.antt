-- That a count of numbers is told as the rules have it.
pub mod Counting
