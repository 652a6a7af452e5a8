-- Laws of the conversions.
pub mod Converted
