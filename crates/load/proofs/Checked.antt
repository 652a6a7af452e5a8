-- What is refused of a medium, as the code finds it. Assumes nothing.
use mathlib.Core.Path.{◌≡◌, refl, sym, ap, ◌∙◌}
use mathlib.Core.Bool.{Bool, true, false, not, ◌||◌, true≢false}
use mathlib.Core.List.{List}
use Prim.Native.Nat.{ℕ, zero, suc, ◌/◌}
use borrow.Author.Tests.{not-false}
use lib.Dec.{eqb}
use lib.ListN.{length}
use Rattle.base.specs.Lists.{each, Bytes}
use Rattle.base.specs.Pick.{pick, some}
use Rattle.refusal.specs.declared.Refusal.{Refusal}
use Rattle.refusal.specs.First.{refuse, accept, ◌if◌else◌}
use Rattle.refusal.proofs.First.{or_else_none, or_else_fault, if_zero, or_else_zero}
use Rattle.text.specs.Drive.{Desc, Listed}
use Rattle.profiles.specs.Profiles.{profile_number, listed, profiles_of, lists}
use Rattle.layout.specs.Layout.{Sheet, feature_count, number, profiles_part}
use Rattle.sheet.specs.Check.{verdict, Accepted}
use Rattle.sheet.specs.Meaning.{desc, meaning}
use Rattle.sheet.proofs.Accepted.{facts}
use Rattle.load.specs.Load.{is_in, ascends, lacks, feature_numbers, profile_numbers, lists_fault, load_fault}
use Rattle.load.specs.inner.Beside.{met}
use Rattle.load.proofs.Numbers.{map_each}
use Rattle.load.proofs.Beside.{met_all, met_few}

-- ---- the numbers that a sheet has

pub features_are : (s : Sheet) → feature_numbers (meaning s) ≡ each (number s) 0 (feature_count s)
unfolding meaning desc
features_are s = map_each (λ (d : Desc). d.number) (desc s) 0 (feature_count s)

pub profiles_are : (s : Sheet) → profile_numbers (meaning s) ≡ each (profile_number (profiles_part s)) 0 (length (profiles_part s) / 4)
unfolding meaning profiles_of listed
profiles_are s = map_each (λ (p : Listed). p.number) (listed (profiles_part s)) 0 (length (profiles_part s) / 4)

pub lists_each : (n : ℕ) (b : List ℕ) (i k : ℕ) → lists n b i k ≡ is_in (each (profile_number b) i k) n
unfolding lists each is_in pick
lists_each n b i zero = refl
lists_each n b i (suc k) = go (eqb (profile_number b i) n) refl (lists_each n b (suc i) k)
  where
    go : (t : Bool) → eqb (profile_number b i) n ≡ t → lists n b (suc i) k ≡ is_in (each (profile_number b) (suc i) k) n → lists n b i (suc k) ≡ is_in (each (profile_number b) i (suc k)) n
    go true e h = rw (e, lists, pick)
    go false e h = rw (e, lists, pick) h

lacks_profiles : (s : Sheet) (ps : List ℕ) → some (λ (n : ℕ). not (lists n (profiles_part s) 0 (length (profiles_part s) / 4))) ps ≡ lacks (profile_numbers (meaning s)) ps
unfolding lacks
lacks_profiles s ps =
    (λ z. some (λ (n : ℕ). not (lists_each n (profiles_part s) 0 (length (profiles_part s) / 4) z)) ps) ∙ ap (λ (l : List ℕ). lacks l ps) (sym (profiles_are s))

-- ---- what is lacking, as the code finds it

or_no : (a b : Bool) → (a || b) ≡ false → (a ≡ false) × (b ≡ false)
or_no true b e = absurd (true≢false e)
or_no false b e = (refl, e)

module _ (fs ps : List ℕ) (s : Sheet) (b : Bytes s.bytes) (k : Accepted s) (asc : ascends fs ≡ true) {m : ℕ} (count : m ≡ met s fs (feature_count s)) where
  pub lacking_feature : (m ≡ length fs → ⊥) → true ≡ (lacks (feature_numbers (meaning s)) fs || lacks (profile_numbers (meaning s)) ps)
  lacking_feature h =
      sym (ap (λ (t : Bool). t || lacks (profile_numbers (meaning s)) ps) (ap (λ (l : List ℕ). lacks l fs) (features_are s) ∙ met_few (facts s b k) fs asc (λ e. h (count ∙ e))))

  pub lacking_profile : m ≡ length fs → {w : Bool} → w ≡ some (λ (n : ℕ). not (lists n (profiles_part s) 0 (length (profiles_part s) / 4))) ps
      → w ≡ (lacks (feature_numbers (meaning s)) fs || lacks (profile_numbers (meaning s)) ps)
  lacking_profile h e =
      e ∙ lacks_profiles s ps
      ∙ sym (ap (λ (t : Bool). t || lacks (profile_numbers (meaning s)) ps) (ap (λ (l : List ℕ). lacks l fs) (features_are s) ∙ met_all (facts s b k) fs asc (sym count ∙ h)))

-- ---- the refusals, one after the other

pub if_yes : (x y : Refusal) {b : Bool} → b ≡ true → (x if b else y) ≡ x
unfolding ◌if◌else◌
if_yes x y e = rw (e, ◌if◌else◌)

pub if_no : (x y : Refusal) {b : Bool} → b ≡ false → (x if b else y) ≡ y
unfolding ◌if◌else◌
if_no x y e = rw (e, ◌if◌else◌)

module _ (fs ps : List ℕ) (s : Sheet) {v : Refusal} (is : v ≡ verdict s) where
  pub fault_sheet : (v.number ≡ 0 → ⊥) → v ≡ load_fault fs ps s
  unfolding load_fault
  fault_sheet h = is ∙ sym (or_else_fault (verdict s) (lists_fault fs ps (meaning s)) (λ z. h (ap (λ (r : Refusal). r.number) is ∙ z)))

  module _ (z : v.number ≡ 0) {t : Bool} (order : t ≡ (not (ascends fs) || not (ascends ps))) where
    pub ok : Accepted s
    ok = sym (ap (λ (r : Refusal). r.number) is) ∙ z

    behind_sheet : load_fault fs ps s ≡ lists_fault fs ps (meaning s)
    unfolding load_fault
    behind_sheet = or_else_none (verdict s) (lists_fault fs ps (meaning s)) ok

    pub fault_order : t ≡ true → refuse 51 ≡ load_fault fs ps s
    unfolding lists_fault
    fault_order h = sym (behind_sheet ∙ if_yes _ _ (sym order ∙ h))

    pub ascending : t ≡ false → ascends fs ≡ true
    ascending h = not-false (ascends fs) (or_no (not (ascends fs)) (not (ascends ps)) (sym order ∙ h)).0

    module _ (up : t ≡ false) {u : Bool} (there : u ≡ (lacks (feature_numbers (meaning s)) fs || lacks (profile_numbers (meaning s)) ps)) where
      pub fault_lacking : u ≡ true → refuse 52 ≡ load_fault fs ps s
      unfolding lists_fault
      fault_lacking h = sym (behind_sheet ∙ if_no _ _ (sym order ∙ up) ∙ if_yes _ _ (sym there ∙ h))

      pub fault_none : u ≡ false → accept ≡ load_fault fs ps s
      unfolding lists_fault
      fault_none h = sym (behind_sheet ∙ if_no _ _ (sym order ∙ up) ∙ if_no _ _ (sym there ∙ h))

-- what a medium that is not refused gives
pub record Loads (fs ps : List ℕ) (s : Sheet) : Type 0 where
  pub accepted : Accepted s
  pub ascending : ascends fs ≡ true
  pub ascending₂ : ascends ps ≡ true
  pub has : lacks (feature_numbers (meaning s)) fs ≡ false
  pub has₂ : lacks (profile_numbers (meaning s)) ps ≡ false

pub loads : (fs ps : List ℕ) (s : Sheet) → (load_fault fs ps s).number ≡ 0 → Loads fs ps s
unfolding load_fault lists_fault
loads fs ps s e =
    let a = or_else_zero _ _ e in
    let b = if_zero _ _ _ a.1 in
    let c = or_no (not (ascends fs)) (not (ascends ps)) b.0 in
    let d = or_no (lacks (feature_numbers (meaning s)) fs) (lacks (profile_numbers (meaning s)) ps) (if_zero _ _ _ b.1).0 in
    record { accepted = a.0; ascending = not-false _ c.0; ascending₂ = not-false _ c.1; has = d.0; has₂ = d.1 }
