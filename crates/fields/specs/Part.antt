-- A part of a lent slice: what it holds and where it lies. A reference's `ptr` is a block of memory and an offset in it. Assumes nothing: these are definitions.
use Rattle.std.specs.Prelude.{◌≡◌, List, ℕ, ◌+◌, ◌≤◌, min, length}
use Rattle.std.specs.Borrow.{Bor}

-- r is the part of s that starts at index at, or at the end of s where s has no such index, and it holds bs
pub record PartOf (s : Bor (List ℕ)) (at : ℕ) (bs : List ℕ) (r : Bor (List ℕ)) : Type 0 where
  pub holds : r.now ≡ bs
  pub block : r.ref_ptr.0 ≡ s.ref_ptr.0
  pub place : r.ref_ptr.1 ≡ s.ref_ptr.1 + min at (length s.now)

-- r lies inside s: in its block, and between its first byte and its end
pub record Inside (s r : Bor (List ℕ)) : Type 0 where
  pub block : r.ref_ptr.0 ≡ s.ref_ptr.0
  pub from : s.ref_ptr.1 ≤ r.ref_ptr.1
  pub to : r.ref_ptr.1 + length r.now ≤ s.ref_ptr.1 + length s.now
