-- A walk over a response: from byte 8 on, and from each place behind, each whole descriptor is given once, in order, and then none. Assumes nothing.
use mathlib.Core.Path.{◌≡◌, refl, sym, ap, subst, ◌∙◌}
use mathlib.Core.Logic.{⊎_elim}
use mathlib.Core.Bool.{true}
use mathlib.Core.List.{List, [], ◌∷◌, ◌++◌}
use Prim.Native.Nat.{ℕ, zero, suc, ◌+◌, ◌≤◌, ◌<◌}
use native.Mathlib.Nat.{add-zero}
use native.Mathlib.Omega.{arith}
use lib.ListN.{length, take, drop, length-append, length-drop}
use lib.Seq.{length-take-le}
use Rattle.base.specs.Lists.{flat}
use Rattle.base.proofs.Compare.{le_or_lt}
use Rattle.text.specs.Drive.{Desc}
use Rattle.text.specs.Response.{bytes}
use Rattle.text.specs.Reading.{Walked, stated_end, number_at, length_at, desc_at, head_fault, walk, walked, read_fault, wholes}
use Rattle.text.proofs.Walk.{walk_none, walk_few, walk_bad, walk_short, walk_step, read_fault_walk, wholes_accepted}
use Rattle.text.proofs.Received.{Stand, length_desc_at, wholes_stand}
use Rattle.descriptor.specs.declared.Standing.{Standing}
use Rattle.descriptor.specs.Standing.{nothing_stands, whole_at, stands_at}
use Rattle.descriptor.proofs.Laws.{stands_few, stands_cut, stands_whole}

-- t is the descriptor d of a response s, at a place: its fields, its body as a part of the response, and behind it the next
pub record Given (s : List ℕ) (at : ℕ) (d : Desc) (t : Standing) : Type 0 where
  pub stands : t.whole ≡ true
  pub number : t.number.0 ≡ d.number
  pub flags : t.flags.0 ≡ d.flags
  pub len : t.len ≡ length d.body
  pub body : d.body ≡ take t.len (drop t.body s)
  pub next : t.next ≡ at + length (bytes d)

-- what t is at a place of a response that a reading accepts, whatever it was asked for: behind the header and the whole descriptors before it the next of them,
-- and behind the last none
pub record Steps (s : List ℕ) (at : ℕ) (t : Standing) : Type 0 where
  pub each : (limit rt sfn : ℕ) (before : List Desc) (d : Desc) (after : List Desc) → wholes limit rt sfn s ≡ before ++ d ∷ after
      → at ≡ 8 + length (flat bytes before) → Given s at d t
  pub ends : (limit rt sfn : ℕ) → (read_fault limit rt sfn s).number ≡ 0 → at ≡ 8 + length (flat bytes (wholes limit rt sfn s)) → t ≡ nothing_stands

-- ---- each of them

-- where descriptors stand, the one behind some of them stands behind their bytes
stand_behind : (s : List ℕ) (at : ℕ) (before : List Desc) (d : Desc) (after : List Desc) → Stand s at (before ++ d ∷ after) → Stand s (at + length (flat bytes before)) (d ∷ after)
unfolding flat
stand_behind s at [] d after h = rw (add-zero at) h
stand_behind s at (b ∷ before) d after h =
    let e : at + length (bytes b ++ flat bytes before) ≡ at + 4 + length_at s at + length (flat bytes before) =
    omega (arith, length-append (bytes b) (flat bytes before), ap (λ (x : Desc). length (bytes x)) h.0, length_desc_at s at h.1) in
    rw e (stand_behind s (at + 4 + length_at s at) before d after h.2)

-- a descriptor that stands at a place is what is given there
given : (s : List ℕ) (at : ℕ) (d : Desc) (after : List Desc) → Stand s at (d ∷ after) → Given s at d (stands_at s at)
unfolding whole_at desc_at
given s at d after h =
    let l : length_at s at ≤ length (drop (at + 4) s) = rw length-drop (omega (arith, h.1)) in
    let b : length d.body ≡ length_at s at = ap (λ (x : Desc). length x.body) h.0 ∙ length-take-le (length_at s at) (drop (at + 4) s) l in
    rw (stands_whole s at h.1)
    record {
      stands = refl;
      number = sym (ap (λ (x : Desc). x.number) h.0);
      flags = sym (ap (λ (x : Desc). x.flags) h.0);
      len = sym b;
      body = ap (λ (x : Desc). x.body) h.0;
      next = omega (arith, ap (λ (x : Desc). length (bytes x)) h.0, length_desc_at s at h.1);
    }

-- ---- and then none

module _ (rt sfn end : ℕ) (s : List ℕ) where
  -- behind what the walk found nothing stands
  abbrev Ended : (k lo at : ℕ) → Type 0
  Ended k lo at = stands_at s (at + length (flat bytes (walk k rt sfn end s lo at).found)) ≡ nothing_stands

  abbrev Ends : ℕ → Type 0
  Ends k = (lo at : ℕ) → length s ≤ at + k → (walk k rt sfn end s lo at).fault.number ≡ 0 → Ended k lo at

  none_behind : (at : ℕ) (ds : List Desc) → ds ≡ [] → stands_at s at ≡ nothing_stands → stands_at s (at + length (flat bytes ds)) ≡ nothing_stands
  unfolding flat
  none_behind at ds e n = subst (λ (l : List Desc). stands_at s (at + length (flat bytes l)) ≡ nothing_stands) (sym e) (rw (add-zero at) n)

  ends_step : (k : ℕ) → Ends k → Ends (suc k)
  unfolding flat
  ends_step k more lo at h z = ⊎_elim (headed (head_fault rt sfn end s lo at).number refl) few (le_or_lt (at + 4) (length s))
    where
      few : length s < at + 4 → Ended (suc k) lo at
      few g = none_behind at (walk (suc k) rt sfn end s lo at).found (ap (λ (w : Walked). w.found) (walk_few k rt sfn end s lo at g)) (stands_few s at g)

      cut : at + 4 ≤ length s → (head_fault rt sfn end s lo at).number ≡ 0 → length s < at + 4 + length_at s at → Ended (suc k) lo at
      cut g f l = none_behind at (walk (suc k) rt sfn end s lo at).found (ap (λ (w : Walked). w.found) (walk_short k rt sfn end s lo at g f l)) (stands_cut s at l)

      onward : at + 4 ≤ length s → (head_fault rt sfn end s lo at).number ≡ 0 → at + 4 + length_at s at ≤ length s → Ended (suc k) lo at
      onward g f l =
          let b = walk_step k rt sfn end s lo at g f l in
          let i = more (number_at s at + 1) (at + 4 + length_at s at) (omega arith) (sym (ap (λ (w : Walked). w.fault.number) b) ∙ z) in
          let n : ℕ = length (flat bytes (walk k rt sfn end s (number_at s at + 1) (at + 4 + length_at s at)).found) in
          let e : at + length (bytes (desc_at s at) ++ flat bytes (walk k rt sfn end s (number_at s at + 1) (at + 4 + length_at s at)).found) ≡ at + 4 + length_at s at + n =
          omega (arith, length-append (bytes (desc_at s at)) (flat bytes (walk k rt sfn end s (number_at s at + 1) (at + 4 + length_at s at)).found), length_desc_at s at l) in
          rw (b, e) i

      headed : (n : ℕ) → (head_fault rt sfn end s lo at).number ≡ n → at + 4 ≤ length s → Ended (suc k) lo at
      headed (suc n) f g =
          let b = walk_bad k rt sfn end s lo at g (λ x. absurd (omega arith)) in
          let y : (head_fault rt sfn end s lo at).number ≡ 0 = sym (ap (λ (w : Walked). w.fault.number) b) ∙ z in
          absurd (omega arith)
      headed zero f g = ⊎_elim (onward g f) (cut g f) (le_or_lt (at + 4 + length_at s at) (length s))

  walk_ends : (k : ℕ) → Ends k
  walk_ends zero = λ lo at h z. none_behind at (walk zero rt sfn end s lo at).found (ap (λ (w : Walked). w.found) (walk_none rt sfn end s lo at)) (stands_few s at (omega arith))
  walk_ends (suc k) = ends_step k (walk_ends k)

pub steps : (s : List ℕ) (at : ℕ) → Steps s at (stands_at s at)
unfolding walked
steps s at = record {
  each = λ limit rt sfn before d after e p.
      let h : Stand s 8 (before ++ d ∷ after) = subst (Stand s 8) e (wholes_stand limit rt sfn s) in
      given s at d after (rw p (stand_behind s 8 before d after h));
  ends = λ limit rt sfn k p.
      rw (p, wholes_accepted limit rt sfn s k)
      (walk_ends rt sfn (stated_end s) s (length s) sfn 8 (omega arith) (read_fault_walk limit rt sfn s k));
}
