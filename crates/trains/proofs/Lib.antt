-- Which jobs a train has, by the tests that the code makes.
pub mod Released
