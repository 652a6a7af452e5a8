-- What this crate's inner functions answer: no contract that another crate can use and no theorem of `demands` rests on these.
pub mod Periodic
