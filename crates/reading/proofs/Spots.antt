-- Where the descriptor of a feature stands: what each turn of the walk makes of it, and that its bytes stand there. Assumes nothing.
use mathlib.Core.Path.{◌≡◌, refl, sym, ap, ◌∙◌}
use mathlib.Core.Logic.{◌⊎◌, inl, inr}
use mathlib.Core.Bool.{Bool, true, false}
use mathlib.Core.List.{List, ◌∷◌}
use Prim.Native.Nat.{ℕ, ◌+◌, ◌≤◌, ◌<◌}
use native.Mathlib.Nat.{add-zero, zero-add}
use native.Mathlib.Omega.{arith}
use lib.Dec.{ltb, eqb}
use lib.ListN.{length, length-append}
use borrow.Author.Tests.{eq-eqb, ne_eqb, lt-ltb, le-ltb}
use Rattle.base.specs.Lists.{flat, keep}
use Rattle.base.proofs.Compare.{le_or_lt}
use Rattle.base.proofs.Lists.{keep_yes, keep_no}
use Rattle.fields.specs.Field.{field}
use Rattle.refusal.specs.declared.Refusal.{Refusal}
use Rattle.refusal.specs.First.{accept, ◌if◌else◌}
use Rattle.refusal.proofs.First.{if_true, if_false, or_else_none, or_else_fault, unless_none, unless_fault}
use Rattle.text.specs.declared.Feature.{Feature}
use Rattle.text.specs.Drive.{Desc}
use Rattle.text.specs.Response.{bytes}
use Rattle.text.specs.Reading.{Walked, stop, onward, stated_length, header_rule, desc_at, walk, walked, read_fault}
use Rattle.text.proofs.Received.{length_desc_at}
use Rattle.text.proofs.Walk.{wholes_refused, wholes_accepted}
use Rattle.reading.specs.declared.Head.{Head}
use Rattle.reading.specs.declared.Head.TheVariants as head
use Rattle.reading.specs.declared.Spot.{Spot}
use Rattle.reading.specs.Held.{is_of, is_below, held_in, place_in}
use Rattle.reading.specs.inner.Tally.{head_at}
use Rattle.reading.specs.inner.Spot.{size_of, no_spot, spot_from, spot_in}
use Rattle.reading.proofs.Tally.{by_cases}
use Rattle.reading.proofs.Going.{Going, going_start, going_end, going_fault, going_number, going_length, going_from, going_cut, going_more}

-- ---- what a walk makes of a place and a size

-- the bytes of those that pass a test, by the first
module _ (t : Desc → Bool) (d : Desc) (ds : List Desc) where
  pub size_yes : t d ≡ true → size_of t (d ∷ ds) ≡ length (bytes d) + size_of t ds
  unfolding flat
  size_yes e = ap (λ (x : List Desc). length (flat bytes x)) (keep_yes t d ds e) ∙ length-append (bytes d) (flat bytes (keep t ds))

  pub size_no : t d ≡ false → size_of t (d ∷ ds) ≡ size_of t ds
  size_no e = ap (λ (x : List Desc). length (flat bytes x)) (keep_no t d ds e)

module _ (f place size : ℕ) where
  spot_stop : spot_from f place size (stop accept) ≡ record { place = place; size = size }
  unfolding spot_from flat keep
  spot_stop = unless_none accept (λ r. no_spot) _ refl ∙ rw (add-zero, add-zero)

  spot_fault : (r : Refusal) → (r.number ≡ 0 → ⊥) → spot_from f place size (stop r) ≡ no_spot
  unfolding spot_from
  spot_fault r k = unless_fault r (λ r. no_spot) _ k

  -- one descriptor on the way: the place and the size with it
  spot_onward : (p z : ℕ) (d : Desc) (w : Walked)
      → place + size_of (is_below f) (d ∷ w.found) ≡ p + size_of (is_below f) w.found
      → size + size_of (is_of f) (d ∷ w.found) ≡ z + size_of (is_of f) w.found → spot_from f place size (onward d w) ≡ spot_from f p z w
  unfolding spot_from
  spot_onward p z d w x y = rw (x, y)

-- ---- the loop

-- what the whole walk finds is what is left of it finds behind this place and size; where only lower features were met, the place is where the walk has come to
pub record Spotted (f end : ℕ) (s : List ℕ) (lo at place size : ℕ) : Type 0 where
  pub going : Going 0 0 end s lo at (λ w. spot_from f 8 0 (walk (length s) 0 0 end s 0 8) ≡ spot_from f place size w)
  pub low : lo ≤ f → (place ≡ at) × (size ≡ 0)

pub spot_start : (f end : ℕ) (s : List ℕ) → Spotted f end s 0 8 8 0
spot_start f end s = record { going = going_start 0 0 end s _ refl; low = λ l. (refl, refl) }

module _ (f end : ℕ) (s : List ℕ) (lo at place size : ℕ) (g : Spotted f end s lo at place size) where
  abbrev all : Spot
  all = spot_from f 8 0 (walk (length s) 0 0 end s 0 8)

  pub spot_end : length s < at + 4 → record { place = place; size = size } ≡ all
  spot_end h = sym (going_end 0 0 end s _ lo at g.going h ∙ spot_stop f place size)

  module _ (h : Head) (q : h ≡ head_at 0 0 end s lo at) (l : at + 4 ≤ length s) where
    pub spot_refused : (r : Refusal) → h ≡ head.Refused r → no_spot ≡ all
    spot_refused r k =
        let x = going_fault 0 0 end s _ lo at g.going h q l r k in
        sym (x.1 ∙ spot_fault f place size r x.0)

    module _ (number : Feature) (len : ℕ) (k : h ≡ head.Stands number len) where
      pub spot_cut : length s < at + 4 + len → record { place = place; size = size } ≡ all
      spot_cut m = sym (going_cut 0 0 end s _ lo at g.going h q l number len k m ∙ spot_stop f place size)

      module _ (m : at + 4 + len ≤ length s) where
        long : length (bytes (desc_at s at)) ≡ 4 + len
        long =
            let e = going_length 0 0 end s _ lo at g.going h q l number len k in
            length_desc_at s at (rw (← e) m) ∙ sym (ap (λ (n : ℕ). 4 + n) e)

        from : lo ≤ number.0
        from = going_from 0 0 end s _ lo at g.going h q l number len k

        moved : (p z : ℕ) → (number.0 + 1 ≤ f → (p ≡ at + 4 + len) × (z ≡ 0))
            → ((ds : List Desc) → place + size_of (is_below f) (desc_at s at ∷ ds) ≡ p + size_of (is_below f) ds)
            → ((ds : List Desc) → size + size_of (is_of f) (desc_at s at ∷ ds) ≡ z + size_of (is_of f) ds)
            → Spotted f end s (number.0 + 1) (at + 4 + len) p z
        moved p z low x y = record {
          going = going_more 0 0 end s _ lo at g.going h q l number len k _ m (λ w e. e ∙ spot_onward f place size p z (desc_at s at) w (x w.found) (y w.found));
          low = low;
        }

        is : (desc_at s at).number ≡ number.0
        unfolding desc_at
        is = sym (going_number 0 0 end s _ lo at g.going h q l number len k)

        -- by whether the descriptor is of a lower feature, of f, of a higher one
        pub spot_more : (p z : ℕ) → p ≡ (at + 4 + len if ltb number.0 f else place) → z ≡ (4 + len if eqb number.0 f else size)
            → Spotted f end s (number.0 + 1) (at + 4 + len) p z
        spot_more p z a b = go (le_or_lt f number.0) (le_or_lt number.0 f)
          where
            go : (f ≤ number.0) ⊎ (number.0 < f) → (number.0 ≤ f) ⊎ (f < number.0) → Spotted f end s (number.0 + 1) (at + 4 + len) p z
            go (inr below) x =
                let c : p ≡ at + 4 + len = rw (lt-ltb number.0 f below, if_true) at a in
                let d : z ≡ size = rw (ne_eqb number.0 f (λ e. omega arith), if_false) at b in
                let e = g.low (omega (arith, from, below)) in
                moved p z (λ o. (c, d ∙ e.1))
                (λ ds. omega (arith, c, e.0, long, size_yes (is_below f) (desc_at s at) ds (rw is (lt-ltb number.0 f below))))
                (λ ds. omega (arith, d, size_no (is_of f) (desc_at s at) ds (rw is (ne_eqb number.0 f (λ y. omega arith)))))
            go (inl to) (inl up) =
                let same : number.0 ≡ f = omega arith in
                let c : p ≡ place = rw (le-ltb number.0 f to, if_false) at a in
                let d : z ≡ 4 + len = rw (eq-eqb number.0 f same, if_true) at b in
                let e = g.low (omega (arith, from, up)) in
                moved p z (λ o. absurd (omega arith))
                (λ ds. omega (arith, c, size_no (is_below f) (desc_at s at) ds (rw is (le-ltb number.0 f to))))
                (λ ds. omega (arith, d, e.1, long, size_yes (is_of f) (desc_at s at) ds (rw is (eq-eqb number.0 f same))))
            go (inl to) (inr above) =
                let c : p ≡ place = rw (le-ltb number.0 f to, if_false) at a in
                let d : z ≡ size = rw (ne_eqb number.0 f (λ e. omega arith), if_false) at b in
                moved p z (λ o. absurd (omega arith))
                (λ ds. omega (arith, c, size_no (is_below f) (desc_at s at) ds (rw is (le-ltb number.0 f to))))
                (λ ds. omega (arith, d, size_no (is_of f) (desc_at s at) ds (rw is (ne_eqb number.0 f (λ y. omega arith)))))

-- ---- the response, by its header and its walk

module _ (f : ℕ) (s : List ℕ) where
  spot_none : ((read_fault 65534 0 0 s).number ≡ 0 → ⊥) → no_spot ≡ spot_in f s
  unfolding spot_in place_in held_in flat keep
  spot_none k = rw (wholes_refused 65534 0 0 s k) refl

  module _ (stated : ℕ) (r : Refusal) (t : stated ≡ field 4 s 0) (q : r ≡ header_rule 65534 0 (length s) stated) where
    header_is : r ≡ header_rule 65534 0 (length s) (stated_length s)
    unfolding stated_length
    header_is = rw (← t) q

    pub spot_header : (r.number ≡ 0 → ⊥) → no_spot ≡ spot_in f s
    unfolding read_fault
    spot_header k = spot_none (λ z. k (ap (λ (x : Refusal). x.number) (header_is ∙ sym (or_else_fault _ _ (rw (← header_is) k))) ∙ z))

    module _ (k : r.number ≡ 0) (x : Spot) (v : x ≡ spot_from f 8 0 (walk (length s) 0 0 (stated + 4) s 0 8)) where
      walk_is : x ≡ spot_from f 8 0 (walked 0 0 s)
      unfolding stated_length walked
      walk_is = rw (← t) v

      fault_is : (walked 0 0 s).fault ≡ read_fault 65534 0 0 s
      unfolding read_fault
      fault_is = sym (or_else_none (header_rule 65534 0 (length s) (stated_length s)) (walked 0 0 s).fault (rw (← header_is) k))

      taken : (walked 0 0 s).fault.number ≡ 0 → x ≡ record { place = 8 + size_of (is_below f) (walked 0 0 s).found; size = 0 + size_of (is_of f) (walked 0 0 s).found } → x ≡ spot_in f s
      unfolding spot_in place_in held_in
      taken z e = e ∙ rw (wholes_accepted 65534 0 0 s (rw (← fault_is) z), zero-add) refl

      pub spot_walk : x ≡ spot_in f s
      unfolding spot_from
      spot_walk = by_cases (walked 0 0 s).fault (λ r. no_spot) _ _ walk_is taken (λ z e. e ∙ spot_none (rw (← fault_is) z))
