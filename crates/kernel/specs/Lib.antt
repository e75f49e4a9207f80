-- What the calls on records promise.
pub mod Kernels
