-- The law of a scan: its promise leaves one outcome.
pub mod Found
