-- What the calls of the scan promise to each other.
pub mod Scanned
