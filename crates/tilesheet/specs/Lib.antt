-- What the program promises.
pub mod Program
