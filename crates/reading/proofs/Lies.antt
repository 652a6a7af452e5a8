-- Where the descriptor lies that is handed back: inside the fresh response if whole there, else inside the kept one. Assumes nothing.
use mathlib.Core.Path.{◌≡◌, refl}
use mathlib.Core.Bool.{Bool, true, false}
use mathlib.Core.List.{List, [], ◌∷◌}
use Prim.Native.Nat.{ℕ, ◌+◌, ◌-◌, ◌≤◌}
use native.Mathlib.Omega.{arith}
use lib.ListN.{length, length-append}
use borrow.Author.Tests.{eqb-true, ltb-true}
use denote.Ref.{Bor}
use Rattle.base.specs.Lists.{flat, keep}
use Rattle.base.proofs.Lists.{keep_yes, keep_no}
use Rattle.fields.specs.Part.{Inside}
use Rattle.fields.proofs.Parts.{part_inside}
use Rattle.text.specs.Drive.{Desc}
use Rattle.text.specs.Response.{bytes}
use Rattle.reading.specs.Places.{descs}
use Rattle.text.proofs.Received.{reading_end, reading_within}
use Rattle.reading.specs.Held.{is_of, is_below, held_in, place_in, from_fresh, held_of, source, HeldIn, HeldOf}

abbrev size : List Desc → ℕ
size ds = length (flat bytes ds)

-- the descriptors below f and those of f are no more bytes than all of them
sizes : (f : ℕ) (ds : List Desc) → size (keep (is_below f) ds) + size (keep (is_of f) ds) ≤ size ds
unfolding flat keep
sizes f [] = omega arith
sizes f (d ∷ ds) = go (is_below f d) (is_of f d) refl refl (sizes f ds)
  where
    go : (b c : Bool) → is_below f d ≡ b → is_of f d ≡ c → size (keep (is_below f) ds) + size (keep (is_of f) ds) ≤ size ds
        → size (keep (is_below f) (d ∷ ds)) + size (keep (is_of f) (d ∷ ds)) ≤ size (d ∷ ds)
    go true true l e h = absurd (omega (arith, ltb-true d.number f l, eqb-true d.number f e))
    go true false l e h =
        rw (keep_yes (is_below f) d ds l, keep_no (is_of f) d ds e)
        (omega (arith, h, length-append (bytes d) (flat bytes (keep (is_below f) ds)), length-append (bytes d) (flat bytes ds)))
    go false true l e h =
        rw (keep_no (is_below f) d ds l, keep_yes (is_of f) d ds e)
        (omega (arith, h, length-append (bytes d) (flat bytes (keep (is_of f) ds)), length-append (bytes d) (flat bytes ds)))
    go false false l e h =
        rw (keep_no (is_below f) d ds l, keep_no (is_of f) d ds e) (omega (arith, h, length-append (bytes d) (flat bytes ds)))

-- a response has all of it
held_fits : (f : ℕ) (s : List ℕ) → length (held_in f s) ≤ length s - place_in f s
unfolding held_in place_in
held_fits f s = omega (arith, sizes f (descs s), reading_end 65534 0 0 s, reading_within 65534 0 0 s)

-- r is feature f's descriptor: bytes inside the fresh response where that has it whole, else bytes inside the kept one
pub record Lies (f : ℕ) (fresh kept r : Bor (List ℕ)) : Type 0 where
  pub in_fresh : from_fresh f fresh.now ≡ true → (r.now ≡ held_in f fresh.now) × Inside fresh r
  pub in_kept : from_fresh f fresh.now ≡ false → (r.now ≡ held_in f kept.now) × Inside kept r

-- whatever the contract of `reading::held` allows lies so
pub held_lies : (f : ℕ) (fresh kept r : Bor (List ℕ)) → HeldOf f fresh kept r → Lies f fresh kept r
unfolding held_of source
held_lies f fresh kept r p = record {
  in_fresh = λ e. lies fresh (rw (e, held_of, source) at p);
  in_kept = λ e. lies kept (rw (e, held_of, source) at p);
}
  where
    lies : (s : Bor (List ℕ)) → HeldIn f s r → (r.now ≡ held_in f s.now) × Inside s r
    lies s h = (h.holds, part_inside h (held_fits f s.now))
