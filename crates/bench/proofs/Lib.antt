-- Laws that this crate's proofs and those above it cite.
pub mod Asked
pub mod Run
pub mod Turns
pub mod Round
pub mod Rounds
pub mod Ends
pub mod Honest
pub mod Demand
pub mod Fewest
pub mod Carried
pub mod Loop
pub mod Promised
