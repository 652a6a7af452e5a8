-- Laws that the proofs cite.
mod Long
