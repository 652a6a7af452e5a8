-- What this crate's inner functions answer: `Image` says what they make together.
pub mod Standing
