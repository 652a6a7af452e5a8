pub mod Layout
pub mod Contents
pub mod Same
pub mod inner
