-- Laws that the proofs of the crates above cite.
pub mod FlagsRule
pub mod Profiles
pub mod Selection
pub mod Sizes
pub mod Sent
pub mod Walk
pub mod Packing
pub mod Own
pub mod Again
pub mod Next
pub mod Narrowing
pub mod Received
pub mod Decides
pub mod Lines
pub mod Promised
