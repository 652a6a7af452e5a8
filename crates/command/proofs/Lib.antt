-- Laws of a command's bytes, and of those that are made.
pub mod Same
pub mod Asked
pub mod Built
pub mod Promised
