-- What the exchange of sheets and texts promises.
pub mod Exchange
