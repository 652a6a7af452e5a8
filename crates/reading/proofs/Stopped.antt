-- What stands where a reading stops: the descriptor at fault, judged by its own four header bytes. Assumes nothing.
use borrow.Author.Tests.{le-leb, lt-leb}
use mathlib.Core.Path.{◌≡◌, refl, sym, ap, ◌∙◌}
use mathlib.Core.Bool.{Bool, true, false}
use mathlib.Core.List.{List, [], ◌∷◌, ◌++◌}
use Prim.Native.Nat.{ℕ, zero, suc, ◌+◌, ◌≤◌, ◌<◌}
use native.Mathlib.Omega.{arith}
use native.Mathlib.Nat.{add-zero}
use lib.ListN.{length, length-append}
use Rattle.base.specs.Lists.{flat}
use Rattle.refusal.specs.declared.Refusal.{Refusal}
use Rattle.refusal.proofs.First.{or_else_none, or_else_zero, unless_none, unless_fault}
use Rattle.text.specs.declared.Reading.{Reading}
use Rattle.text.specs.Drive.{Desc}
use Rattle.text.specs.Response.{bytes}
use Rattle.text.specs.Reading.{stated_length, stated_end, header_rule, Walked, stop, onward, number_at, length_at, desc_at, head_fault, walk, walked, read_fault, taken, reading}
use Rattle.text.proofs.Walk.{walk_by}
use Rattle.text.proofs.Received.{length_desc_at, reading_none}
use Rattle.reading.specs.Stop.{nowhere, feature_at, standing, stop_place, stopped}

-- the lowest number that may stand behind ds, where lo may stand before them
abbrev pub low_behind : (lo : ℕ) → List Desc → ℕ
low_behind lo [] = lo
low_behind lo (d ∷ ds) = low_behind (d.number + 1) ds

-- the four header bytes at a place were received, and r is what they are refused for behind the whole descriptors ds
pub record AtFault (rt sfn end : ℕ) (s : List ℕ) (lo : ℕ) (ds : List Desc) (r : Refusal) (place : ℕ) : Type 0 where
  pub received : place + 4 ≤ length s
  pub judged : r ≡ head_fault rt sfn end s (low_behind lo ds) place

-- of a walk from lo and at on
abbrev StopsAt : (rt sfn end : ℕ) (s : List ℕ) (lo at : ℕ) → Walked → Type 0
StopsAt rt sfn end s lo at w = (w.fault.number ≡ 0 → ⊥) → AtFault rt sfn end s lo w.found w.fault (at + length (flat bytes w.found))

module _ (rt sfn end : ℕ) (s : List ℕ) (lo at : ℕ) where
  stops_here : at + 4 ≤ length s → StopsAt rt sfn end s lo at (stop (head_fault rt sfn end s lo at))
  unfolding flat
  stops_here four x = record { received = omega (arith, four); judged = rw add-zero refl }

  stops_onward : (w : Walked) → at + 4 + length_at s at ≤ length s → StopsAt rt sfn end s (number_at s at + 1) (at + 4 + length_at s at) w → StopsAt rt sfn end s lo at (onward (desc_at s at) w)
  unfolding flat desc_at
  stops_onward w whole f x =
      let p : at + length (bytes (desc_at s at) ++ flat bytes w.found) ≡ at + 4 + length_at s at + length (flat bytes w.found) =
      omega (arith, length-append (bytes (desc_at s at)) (flat bytes w.found), length_desc_at s at whole) in
      rw p (record { received = (f x).received; judged = (f x).judged })

pub walk_fault : (k rt sfn end : ℕ) (s : List ℕ) (lo at : ℕ) → StopsAt rt sfn end s lo at (walk k rt sfn end s lo at)
walk_fault k rt sfn end s lo at =
    walk_by rt sfn end s (StopsAt rt sfn end s) (λ lo at x. absurd (x refl)) (λ lo at four. stops_here rt sfn end s lo at four)
    (λ lo at w e whole f. stops_onward rt sfn end s lo at w whole f) k lo at

-- ---- what is promised of the place and the feature

-- Of the place where the reading of s as the answer to RT rt from sfn stops, where more than limit bytes are refused, and of the feature there: 0 and 0 where the
-- header is refused; else the descriptor at fault stands there, or, where nothing is refused, what is behind the last whole one.
pub record Stops (limit rt sfn : ℕ) (s : List ℕ) (place feature : ℕ) : Type 0 where
  pub nowhere : ((header_rule limit rt (length s) (stated_length s)).number ≡ 0 → ⊥) → (place ≡ 0) × (feature ≡ 0)
  pub fault : (header_rule limit rt (length s) (stated_length s)).number ≡ 0 → ((read_fault limit rt sfn s).number ≡ 0 → ⊥)
      → AtFault rt sfn (stated_end s) s sfn (walked rt sfn s).found (read_fault limit rt sfn s) place
  pub end : (read_fault limit rt sfn s).number ≡ 0 → place ≡ (reading limit rt sfn s).end
  pub stands : (header_rule limit rt (length s) (stated_length s)).number ≡ 0 → place + 4 ≤ length s → feature ≡ number_at s place
  pub lacks : length s < place + 4 → feature ≡ 0

module _ (limit rt sfn : ℕ) (s : List ℕ) where
  abbrev header : Refusal
  header = header_rule limit rt (length s) (stated_length s)

  stopped_none : (header.number ≡ 0 → ⊥) → stopped limit rt sfn s ≡ nowhere
  unfolding stopped
  stopped_none h = unless_fault header (λ r. nowhere) _ h

  stopped_at : header.number ≡ 0 → stopped limit rt sfn s ≡ standing s (stop_place rt sfn s)
  unfolding stopped
  stopped_at h = unless_none header (λ r. nowhere) _ h

  walk_is : header.number ≡ 0 → read_fault limit rt sfn s ≡ (walked rt sfn s).fault
  unfolding read_fault
  walk_is h = or_else_none header (walked rt sfn s).fault h

  at_fault : header.number ≡ 0 → ((read_fault limit rt sfn s).number ≡ 0 → ⊥) → AtFault rt sfn (stated_end s) s sfn (walked rt sfn s).found (read_fault limit rt sfn s) (stop_place rt sfn s)
  unfolding walked stop_place
  at_fault h k = rw (walk_is h) (walk_fault (length s) rt sfn (stated_end s) s sfn 8 (λ z. k (ap (λ (r : Refusal). r.number) (walk_is h) ∙ z)))

  ends_there : (read_fault limit rt sfn s).number ≡ 0 → stop_place rt sfn s ≡ (reading limit rt sfn s).end
  unfolding stop_place taken
  ends_there k = ap (λ (r : Reading). r.end) (sym (reading_none limit rt sfn s k))

  stands_there : (place : ℕ) → place + 4 ≤ length s → feature_at s place ≡ number_at s place
  unfolding feature_at
  stands_there place l = ap (λ (b : Bool). elim b as (λ c. ℕ) [ true ↦ number_at s place | false ↦ 0 ]) (le-leb (place + 4) (length s) l)

  lacks_there : (place : ℕ) → length s < place + 4 → feature_at s place ≡ 0
  unfolding feature_at
  lacks_there place l = ap (λ (b : Bool). elim b as (λ c. ℕ) [ true ↦ number_at s place | false ↦ 0 ]) (lt-leb (place + 4) (length s) l)

  header_none : (read_fault limit rt sfn s).number ≡ 0 → header.number ≡ 0
  unfolding read_fault
  header_none x = (or_else_zero header (walked rt sfn s).fault x).0

  pub stops_so : Stops limit rt sfn s (stopped limit rt sfn s).at (stopped limit rt sfn s).feature.0
  unfolding standing
  stops_so = go header.number refl
    where
      go : (n : ℕ) → header.number ≡ n → Stops limit rt sfn s (stopped limit rt sfn s).at (stopped limit rt sfn s).feature.0
      go zero h = rw (stopped_at h) record {
        nowhere = λ k. absurd (k h);
        fault = at_fault;
        end = ends_there;
        stands = λ k l. stands_there _ l;
        lacks = λ l. lacks_there _ l;
      }
      go (suc n) h = let k : header.number ≡ 0 → ⊥ = λ z. omega arith in rw (stopped_none k) record {
        nowhere = λ x. (refl, refl);
        fault = λ x. absurd (k x);
        end = λ x. absurd (k (header_none x));
        stands = λ x. absurd (k x);
        lacks = λ l. refl;
      }
