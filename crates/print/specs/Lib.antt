-- What the calls that put bytes promise.
pub mod Place
pub mod Pages
