-- Laws of the walk over a word's digits.
mod Walk
