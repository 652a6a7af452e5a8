-- What only the copying by blocks speaks of.
pub mod Same
