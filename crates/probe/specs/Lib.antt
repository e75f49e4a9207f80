-- What the probe promises.
pub mod Probe
