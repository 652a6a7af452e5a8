pub mod Field
pub mod Part
