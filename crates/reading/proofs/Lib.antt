-- Laws that this crate's proofs cite.
pub mod At
pub mod Tally
pub mod Outcome
pub mod Fresh
pub mod Lies
pub mod Places
pub mod Rest
pub mod Going
pub mod Spots
pub mod Stopped
pub mod Completed
pub mod Loops
pub mod Decides
pub mod Promised
pub mod Flagged
