pub mod Chars
pub mod Front
pub mod Steps
pub mod Text
pub mod Printed
pub mod inner
