pub mod Recorder
pub mod Star
pub mod Across
