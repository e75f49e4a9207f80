-- Laws that the proof of the call rests on.
pub mod Shown
