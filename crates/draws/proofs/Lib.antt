-- Laws of the loop that fills a table.
pub mod Filling
