-- What only the walk over a text speaks of.
pub mod Walk
