-- What is promised of the rows beside the rules of the call.
pub mod OneLate
