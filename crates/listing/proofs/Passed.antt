-- The loop over the descriptors of a response: those passed are listed, those left stand from a place to the end of the reading. Assumes nothing.
use mathlib.Core.Path.{◌≡◌, refl, sym, ap, subst, ◌∙◌}
use mathlib.Core.List.{List, [], ◌∷◌, ◌++◌, append_assoc, append-nil}
use Prim.Native.Nat.{ℕ, ◌+◌, ◌≤◌, ◌<◌}
use native.Mathlib.Omega.{arith}
use lib.ListN.{length}
use Rattle.base.specs.Lists.{flat}
use Rattle.base.proofs.Lists.{flat_append}
use Rattle.lent.specs.Wrote.{Wrote}
use Rattle.lent.proofs.Laws.{nothing, then}
use Rattle.text.specs.Drive.{Desc}
use Rattle.text.specs.Reading.{number_at, flags_at, length_at, desc_at, reading}
use Rattle.text.proofs.Sizes.{length_bytes}
use Rattle.text.proofs.Received.{Stand, length_desc_at, wholes_stand, reading_within}
use Rattle.reading.specs.Places.{descs, next_at}
use Rattle.reading.specs.inner.Between.{between}
use Rattle.reading.proofs.At.{next_is}
use Rattle.reading.proofs.Places.{left_more, left_none, wholes_between}
use Rattle.listing.specs.Listing.{line_of, desc_line}

-- d is the memory lent, written from `at` on, and e what it is now; next is the index behind the lines, place the one behind the descriptors passed, and ds are left
pub record Passed (s d : List ℕ) (at place next : ℕ) (e : List ℕ) (ds : List Desc) : Type 0 where
  pub done : List Desc
  pub whole : descs s ≡ done ++ ds
  pub stand : Stand s place ds
  pub wrote : Wrote d at (flat desc_line done) next e

module _ (s : List ℕ) (end : ℕ) (q : end ≡ (reading 65534 0 0 s).end) where
  pub passed_within : end ≤ length s
  passed_within = rw q (reading_within 65534 0 0 s)

  pub passed_start : (d : List ℕ) (at : ℕ) → Passed s d at 8 at d (between s 8 end)
  unfolding flat
  passed_start d at =
      subst (Passed s d at 8 at d) (rw q (wholes_between s))
      record { done = []; whole = refl; stand = wholes_stand 65534 0 0 s; wrote = nothing d at }

-- the line of a descriptor that was received whole
line_desc_at : (s : List ℕ) (place : ℕ) → place + 4 + length_at s place ≤ length s → desc_line (desc_at s place) ≡ line_of (number_at s place) (flags_at s place) (length_at s place)
unfolding desc_line desc_at
line_desc_at s place h =
    ap (line_of (number_at s place) (flags_at s place)) {x = length (desc_at s place).body} {y = length_at s place} (omega (arith, length_bytes (desc_at s place), length_desc_at s place h))

-- a turn, and the end
module _ {s d e : List ℕ} {end at place next : ℕ} (p : Passed s d at place next e (between s place end)) where
  pub passed_more : {f : List ℕ} {r place' : ℕ} → end ≤ length s → place < end
      → Wrote e next (line_of (number_at s place) (flags_at s place) (length_at s place)) r f
      → place' ≡ next_at s place
      → Passed s d at place' r f (between s place' end)
  unfolding flat
  passed_more {f} {r} {place'} l h w n =
      let m : place' ≡ place + 4 + length_at s place = next_is s place place' (omega arith) n in
      let q : Passed s d at place next e (desc_at s place ∷ between s place' end) = left_more s place end (Passed s d at place next e) p place' h m in
      record {
        done = q.done ++ (desc_at s place ∷ []);
        whole = q.whole ∙ sym (append_assoc q.done (desc_at s place ∷ []) (between s place' end));
        stand = subst (λ (k : ℕ). Stand s k (between s place' end)) (sym m) q.stand.2;
        wrote = rw (flat_append desc_line q.done (desc_at s place ∷ []), append-nil (desc_line (desc_at s place)), line_desc_at s place q.stand.1) (then q.wrote w);
      }

  pub passed_end : end ≤ place → Wrote d at (flat desc_line (descs s)) next e
  passed_end h =
      let q : Passed s d at place next e [] = left_none s place end (Passed s d at place next e) p h in
      rw (q.whole, append-nil) q.wrote
