-- Laws that the proofs share.
mod Bounds
mod Sums
pub mod Excesses
