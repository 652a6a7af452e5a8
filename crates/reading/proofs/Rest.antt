-- What stands where a feature's descriptor is looked for. Assumes nothing.
use mathlib.Core.Path.{◌≡◌, refl, sym, ap, ◌∙◌}
use mathlib.Core.Logic.{◌⊎◌, inl, inr}
use mathlib.Core.List.{List, [], ◌∷◌, append-nil}
use Prim.Native.Nat.{ℕ, ◌+◌, ◌≤◌, ◌<◌}
use native.Mathlib.Omega.{arith}
use lib.ListN.{length, take, drop}
use denote.Ref.{Bor}
use borrow.Author.Tests.{eq-eqb, ne_eqb, lt-ltb, le-ltb}
use Rattle.base.specs.Lists.{flat, keep, Bytes}
use Rattle.base.proofs.Compare.{le_or_lt}
use Rattle.base.proofs.Lists.{keep_yes, keep_no}
use Rattle.fields.specs.Part.{PartOf}
use Rattle.fields.proofs.Parts.{part_is}
use Rattle.text.specs.Drive.{Desc, Asc}
use Rattle.text.specs.Response.{bytes}
use Rattle.text.specs.Reading.{number_at, length_at, desc_at}
use Rattle.text.proofs.Again.{bytes_desc_at}
use Rattle.text.proofs.Received.{Stand, length_desc_at, wholes_stand, wholes_asc}
use Rattle.reading.specs.Places.{descs}
use Rattle.reading.specs.declared.Spot.{Spot}
use Rattle.reading.specs.Held.{is_of, is_below, held_in, place_in, HeldIn}
use Rattle.reading.specs.inner.Spot.{size_of, spot_in}
use Rattle.reading.proofs.Spots.{size_yes, size_no}

-- of ascending descriptors above f none is f's
pub keep_above : (f lo : ℕ) (ds : List Desc) → f < lo → Asc lo ds → keep (is_of f) ds ≡ []
unfolding keep
keep_above f lo [] l a = refl
keep_above f lo (d ∷ ds) l a =
    keep_no (is_of f) d ds (ne_eqb d.number f (λ e. omega (arith, a.0))) ∙ keep_above f (1 + d.number) ds (omega (arith, a.0)) a.1

-- of ascending descriptors from f on none is below it
none_below : (f lo : ℕ) (ds : List Desc) → f ≤ lo → Asc lo ds → keep (is_below f) ds ≡ []
unfolding keep
none_below f lo [] l a = refl
none_below f lo (d ∷ ds) l a =
    keep_no (is_below f) d ds (le-ltb d.number f (omega (arith, a.0))) ∙ none_below f (1 + d.number) ds (omega (arith, a.0)) a.1

is_number : (s : List ℕ) (at : ℕ) (d : Desc) → d ≡ desc_at s at → d.number ≡ number_at s at
unfolding desc_at
is_number s at d e = ap (λ (x : Desc). x.number) e

-- ---- what stands at the place

-- behind those below f: no descriptor of f, or the one that is whole there
abbrev Parted : (f : ℕ) (s : List ℕ) (place : ℕ) → List Desc → Type 0
Parted f s place own = (own ≡ []) ⊎ ((own ≡ desc_at s place ∷ []) × (number_at s place ≡ f) × (place + 4 + length_at s place ≤ length s))

parted : (f : ℕ) (s : List ℕ) (lo at : ℕ) (ds : List Desc) → Stand s at ds → Asc lo ds → Parted f s (at + size_of (is_below f) ds) (keep (is_of f) ds)
unfolding keep flat
parted f s lo at [] h a = inl refl
parted f s lo at (d ∷ ds) h a = go (le_or_lt f d.number) (le_or_lt d.number f) (parted f s (1 + d.number) (at + 4 + length_at s at) ds h.2 a.1)
  where
    front : f ≤ d.number → at + size_of (is_below f) (d ∷ ds) ≡ at
    front l = omega (arith, size_no (is_below f) d ds (le-ltb d.number f l), ap (λ (x : List Desc). length (flat bytes x)) (none_below f (1 + d.number) ds (omega arith) a.1))

    go : (f ≤ d.number) ⊎ (d.number < f) → (d.number ≤ f) ⊎ (f < d.number) → Parted f s (at + 4 + length_at s at + size_of (is_below f) ds) (keep (is_of f) ds)
        → Parted f s (at + size_of (is_below f) (d ∷ ds)) (keep (is_of f) (d ∷ ds))
    go (inr below) q next =
        let e : at + size_of (is_below f) (d ∷ ds) ≡ at + 4 + length_at s at + size_of (is_below f) ds =
        omega (arith, size_yes (is_below f) d ds (lt-ltb d.number f below), ap (λ (x : Desc). length (bytes x)) h.0, length_desc_at s at h.1) in
        rw (e, keep_no (is_of f) d ds (ne_eqb d.number f (λ y. omega arith))) next
    go (inl from) (inl to) next =
        rw (front from, keep_yes (is_of f) d ds (eq-eqb d.number f (omega arith)), keep_above f (1 + d.number) ds (omega arith) a.1)
        (inr (ap (λ (x : Desc). x ∷ []) h.0, sym (is_number s at d h.0) ∙ omega arith, h.1))
    go (inl from) (inr above) next = inl (keep_no (is_of f) d ds (ne_eqb d.number f (λ y. omega arith)) ∙ keep_above f (1 + d.number) ds (omega arith) a.1)

parted_in : (f : ℕ) (s : List ℕ) → Parted f s (place_in f s) (keep (is_of f) (descs s))
unfolding place_in
parted_in f s = parted f s 0 8 (descs s) (wholes_stand 65534 0 0 s) (wholes_asc 65534 0 0 s)

-- its bytes stand there
pub held_there : (f : ℕ) (s : List ℕ) → Bytes s → take (length (held_in f s)) (drop (place_in f s) s) ≡ held_in f s
unfolding held_in flat
held_there f s b = go (keep (is_of f) (descs s)) (parted_in f s)
  where
    place : ℕ
    place = place_in f s

    go : (own : List Desc) → Parted f s place own → take (length (flat bytes own)) (drop place s) ≡ flat bytes own
    go own (inl e) = rw (e, flat) refl
    go own (inr e) =
        let w : flat bytes own ≡ bytes (desc_at s place) = ap (flat bytes) e.0 ∙ append-nil (bytes (desc_at s place)) in
        rw (w, length_desc_at s place e.2) (sym (bytes_desc_at s place b e.2))

-- so it is the part that the code cuts out by its place and size
pub part_held : (f : ℕ) (s r : Bor (List ℕ)) (x : Spot) → Bytes s.now → x ≡ spot_in f s.now → PartOf s x.place (take x.size (drop x.place s.now)) r → HeldIn f s r
unfolding spot_in
part_held f s r x b e p =
    part_is p
    (ap (λ (y : Spot). y.place) e, ap (λ (y : Spot). take y.size (drop y.place s.now)) e ∙ held_there f s.now b)

-- Of the place that is given for a feature of s: it lies behind the header, and where the response has the feature whole, its number stands there
pub record Stood (f : ℕ) (s : List ℕ) (at : ℕ) : Type 0 where
  pub exact : at ≡ place_in f s
  pub behind : 8 ≤ at
  pub names : (length (held_in f s) ≡ 0 → ⊥) → number_at s at ≡ f

pub stood_so : (f : ℕ) (s : List ℕ) → Stood f s (place_in f s)
unfolding place_in held_in flat
stood_so f s = record {
  exact = refl;
  behind = omega arith;
  names = λ n. named n (parted_in f s);
}
  where
    named : (length (flat bytes (keep (is_of f) (descs s))) ≡ 0 → ⊥) → Parted f s (place_in f s) (keep (is_of f) (descs s)) → number_at s (place_in f s) ≡ f
    named n (inl e) = absurd (n (ap (λ (x : List Desc). length (flat bytes x)) e))
    named n (inr e) = e.1
