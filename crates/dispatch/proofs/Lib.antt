-- Laws of the sum that counts the jobs, and of the loop that writes the rows.
pub mod Counting
pub mod Loop
