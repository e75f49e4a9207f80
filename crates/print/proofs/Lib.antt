-- Laws of bytes put at a place, and of bytes added to a page.
pub mod Putting
pub mod Pages
mod Widths
