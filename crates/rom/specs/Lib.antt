pub mod Rom
pub mod Image
pub mod inner
