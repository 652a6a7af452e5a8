-- A count of bytes that are there. Assumes nothing.
use Rattle.std.proofs.Common.{ℕ, ◌≤◌, List, length, sym}
use Rattle.std.proofs.lemmas.List.{length-take-le}
use Rattle.std.specs.Counts.{IsPrefixLen}

pub counted : (n : ℕ) → (xs : List ℕ) → n ≤ length xs → IsPrefixLen n xs
counted n xs h = (h, sym (length-take-le n xs h))
