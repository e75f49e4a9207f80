-- Laws of the probes: that each leaves one outcome, and the bytes that a reading used.
pub mod Rooms
mod Used
