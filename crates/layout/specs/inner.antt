-- What the accessors that look at no end ask of a sheet; a `requires` says it.
pub mod Room
-- What a writer of descriptors looks at before it writes; a contract says it.
pub mod Found
