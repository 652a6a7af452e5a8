-- Laws that this crate's proofs and those above it cite.
pub mod Rules
pub mod Columns
pub mod Lowest
pub mod Resumed
pub mod Judgements
pub mod Alone
pub mod Broken
pub mod Breaks
pub mod Covered
pub mod Judged
pub mod Singly
pub mod Promised
