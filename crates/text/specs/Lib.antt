pub mod Flags
pub mod Drive
pub mod Response
pub mod Reading
pub mod Packing
pub mod Narrowing
