-- The pieces that are printed, one after another.
mod Following
