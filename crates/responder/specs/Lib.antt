pub mod Answer
pub mod Trusting
pub mod Sized
pub mod inner
