-- The three demands, and what is sharper than they ask.
pub mod Tables
pub mod Demands
pub mod Sharper
