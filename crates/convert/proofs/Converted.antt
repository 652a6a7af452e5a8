-- The answers of a conversion case by case, and that one undoes another. Names no layout. Assumes nothing.
use mathlib.Core.Path.{◌≡◌, sym, ap, ◌∙◌}
use mathlib.Core.List.{List, ◌++◌}
use Prim.Native.Nat.{ℕ, ◌≤◌, ◌<◌}
use native.Mathlib.Omega.{arith}
use lib.ListN.{length, take, drop}
use lib.Seq.{take-append_seam}
use Rattle.base.specs.Lists.{Bytes}
use Rattle.lent.specs.Wrote.{Wrote}
use Rattle.lent.specs.declared.Made.{Made}
use Rattle.lent.specs.Maker.{Outcome, outcome, refused, written, refusing, making}
use Rattle.lent.proofs.Maker.{written_making, makes_fault, makes_short, makes_made, makes_zero}
use Rattle.refusal.specs.declared.Refusal.{Refusal}
use Rattle.refusal.specs.First.{refuse}
use Rattle.layout.specs.declared.Layout.{Layout}
use Rattle.layout.specs.Layout.{Sheet, sheet_size, profiles_at}
use Rattle.layout.specs.Contents.{laid}
use Rattle.layout.proofs.Laid.{laid_length, laid_bytes}
use Rattle.sheet.specs.Check.{verdict, Accepted}
use Rattle.sheet.proofs.Same.{accepted_room, laid_accepted, laid_undone}
use Rattle.convert.specs.Convert.{converted}

module _ (l : Layout) (s : Sheet) (d : List ℕ) where
  pub converted_fault : ((verdict s).number ≡ 0 → ⊥) → converted l s d ≡ refusing d (verdict s)
  unfolding converted
  converted_fault h = makes_fault (verdict s) 42 (laid l s).bytes d h

  pub converted_short : Bytes s.bytes → Accepted s → length d < sheet_size s → converted l s d ≡ refusing d (refuse 42)
  unfolding converted
  converted_short b e h = makes_short (verdict s) 42 (laid l s).bytes d e (λ z. omega arith) (omega (arith, laid_length l s b (accepted_room s b e)))

  pub converted_made : Bytes s.bytes → Accepted s → sheet_size s ≤ length d → converted l s d ≡ making (laid l s).bytes d
  unfolding converted
  converted_made b e h = makes_made (verdict s) 42 (laid l s).bytes d e (omega (arith, laid_length l s b (accepted_room s b e)))

  -- what the number 0 says
  pub converted_zero : Bytes s.bytes → (converted l s d).made.refusal.number ≡ 0 → Accepted s × (sheet_size s ≤ length d)
  unfolding converted
  converted_zero b e =
      let z = makes_zero (verdict s) 41 (laid l s).bytes d e in
      (z.0, omega (arith, z.1, laid_length l s b (accepted_room s b z.0)))

  -- then the sheet, laid out so, stands at the front of the buffer, as long as it was
  pub converted_stands : Bytes s.bytes → (converted l s d).made.refusal.number ≡ 0 → ((converted l s d).made.count ≡ sheet_size s) × (take (sheet_size s) (converted l s d).buffer ≡ (laid l s).bytes)
  unfolding making
  converted_stands b e =
      let z = converted_zero b e in
      let n = laid_length l s b (accepted_room s b z.0) in
      let m : converted l s d ≡ making (laid l s).bytes d = converted_made b z.0 z.1 in (
        ap (λ (o : Outcome). o.made.count) m ∙ n,
        ap (λ (o : Outcome). take (sheet_size s) o.buffer) m ∙ ap (λ (k : ℕ). take k ((laid l s).bytes ++ drop (length (laid l s).bytes) d)) (sym n) ∙ take-append_seam (laid l s).bytes (drop (length (laid l s).bytes) d),
      )

-- converted back, it is the sheet that it was
pub converted_back : (l : Layout) (s : Sheet) (d : List ℕ) → Bytes s.bytes → Accepted s → sheet_size s ≤ length d → converted s.layout (laid l s) d ≡ making s.bytes d
converted_back l s d b e h =
    let room = accepted_room s b e in
    converted_made s.layout (laid l s) d (laid_bytes l s b room) (laid_accepted l s b e) (omega (arith, laid_length l s b room))
    ∙ ap (λ (t : Sheet). making t.bytes d) (laid_undone l s b e)

-- ---- what the code finds

module _ (l : Layout) (s : Sheet) (d : List ℕ) {v : Refusal} (b : Bytes s.bytes) (is : v ≡ verdict s) where
  pub refused_first : {m : Made} → (v.number ≡ 0 → ⊥) → m ≡ refused v → outcome m d ≡ converted l s d
  unfolding refusing
  refused_first h e = ap (λ (n : Made). outcome n d) (e ∙ ap refused is) ∙ sym (converted_fault l s d (λ z. h (ap (λ (r : Refusal). r.number) is ∙ z)))

  ok : v.number ≡ 0 → Accepted s
  ok z = sym (ap (λ (r : Refusal). r.number) is) ∙ z

  pub refused_short : {m : Made} → v.number ≡ 0 → length d < sheet_size s → m ≡ refused (refuse 42) → outcome m d ≡ converted l s d
  unfolding refusing
  refused_short z h e = ap (λ (n : Made). outcome n d) e ∙ sym (converted_short l s d b (ok z) h)

  pub laid_out : {m : Made} {count : ℕ} {e : List ℕ} → v.number ≡ 0 → sheet_size s ≤ length d → Wrote d 0 (laid l s).bytes count e → m ≡ written count → outcome m e ≡ converted l s d
  laid_out {m} {count} {e} z h w q =
      ap (λ (n : Made). outcome n e) q ∙ written_making (omega (arith, laid_length l s b (accepted_room s b (ok z)))) w ∙ sym (converted_made l s d b (ok z) h)

  pub has_room : v.number ≡ 0 → profiles_at s ≤ sheet_size s
  has_room z = accepted_room s b (ok z)
