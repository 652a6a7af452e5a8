-- What stands in the buffer of a loading that answers 0. Assumes nothing.
use mathlib.Core.Path.{◌≡◌, sym, ap, ◌∙◌}
use mathlib.Core.List.{List}
use Prim.Native.Nat.{ℕ, ◌≤◌}
use native.Mathlib.Omega.{arith}
use lib.ListN.{length, take, drop}
use lib.Seq.{take-append_seam}
use Rattle.base.specs.Lists.{Bytes}
use Rattle.lent.specs.Maker.{Outcome, making}
use Rattle.lent.proofs.Maker.{makes_zero}
use Rattle.layout.specs.Layout.{Sheet, stored, sheet_size}
use Rattle.sheet.specs.Check.{Accepted}
use Rattle.sheet.specs.Meaning.{sheet_of}
use Rattle.load.specs.Load.{loaded, load_fault, loading}
use Rattle.load.proofs.Checked.{loads}
use Rattle.load.proofs.Put.{loading_made, loaded_size}
use Rattle.load.proofs.Promised.{Loads}

module _ (fs ps : List ℕ) (s : Sheet) (d : List ℕ) where
  zero : (loading fs ps s d).made.refusal.number ≡ 0 → ((load_fault fs ps s).number ≡ 0) × (length (loaded fs ps s).bytes ≤ length d)
  unfolding loading
  zero e = makes_zero (load_fault fs ps s) 52 (loaded fs ps s).bytes d e

  is_stored : {b : List ℕ} → b ≡ (loaded fs ps s).bytes → stored s.layout b ≡ loaded fs ps s
  unfolding loaded sheet_of
  is_stored e = ap (stored s.layout) e

  stands_so : Bytes s.bytes → (loading fs ps s d).made.refusal.number ≡ 0 → stored s.layout (take (loading fs ps s d).made.count (loading fs ps s d).buffer) ≡ loaded fs ps s
  unfolding making
  stands_so b e =
      let z = zero e in
      let n : length (loaded fs ps s).bytes ≡ sheet_size s = loaded_size fs ps s d b z.0 in
      let m : loading fs ps s d ≡ making (loaded fs ps s).bytes d = loading_made fs ps s d b z.0 (omega (arith, z.1)) in
      is_stored (ap (λ (o : Outcome). take o.made.count o.buffer) m ∙ take-append_seam (loaded fs ps s).bytes (drop (length (loaded fs ps s).bytes) d))

-- of an outcome o: the lists were fine, and the sheet as the medium leaves it stands at the front
module _ {fs ps d : List ℕ} {s : Sheet} {o : Outcome} (l : Loads fs ps s d o) (z : o.made.refusal.number ≡ 0) where
  pub accepts : Accepted s
  accepts = (loads fs ps s (zero fs ps s d (sym (ap (λ (p : Outcome). p.made.refusal.number) l.exact) ∙ z)).0).accepted

  pub stands : Bytes s.bytes → stored s.layout (take o.made.count o.buffer) ≡ loaded fs ps s
  stands b =
      ap (λ (p : Outcome). stored s.layout (take p.made.count p.buffer)) l.exact ∙ stands_so fs ps s d b (sym (ap (λ (p : Outcome). p.made.refusal.number) l.exact) ∙ z)
