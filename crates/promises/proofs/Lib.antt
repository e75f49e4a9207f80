-- The demands are met.
pub mod EndsWell
pub mod Trips
pub mod Whole
pub mod Kept
mod Exact
mod Texts
mod Judged
mod Shown
pub mod Dispatched
pub mod CallForC
pub mod ByHowMuch
mod Printing
mod Seeded
pub mod SetsDrawn
pub mod Sheets
pub mod Numbers
