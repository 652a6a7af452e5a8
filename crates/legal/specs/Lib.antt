pub mod Legal
pub mod Bodies
pub mod inner
