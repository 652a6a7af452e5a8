pub mod Sweep
pub mod Run
pub mod inner
