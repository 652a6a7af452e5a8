-- What the writer leaves, and the answers case by case. Assumes nothing.
use mathlib.Core.Path.{◌≡◌, sym, ap, ◌∙◌}
use mathlib.Core.List.{List, ◌++◌, append-nil}
use Prim.Native.Nat.{ℕ, ◌+◌, ◌*◌, ◌/◌, ◌≤◌, ◌<◌}
use native.Mathlib.Omega.{arith}
use lib.ListN.{length, take, drop, drop_of_length-le}
use lib.Seq.{sets, sets-eq, take-length}
use Rattle.base.specs.Lists.{Bytes}
use Rattle.refusal.specs.declared.Refusal.{Refusal}
use Rattle.refusal.specs.First.{refuse}
use Rattle.lent.specs.Wrote.{Wrote}
use Rattle.lent.specs.declared.Made.{Made}
use Rattle.lent.specs.Maker.{outcome, refused, written, refusing, making}
use Rattle.lent.proofs.Maker.{makes_fault, makes_short, makes_made}
use Rattle.text.specs.Drive.{bit}
use Rattle.profiles.specs.Profiles.{profile_number}
use Rattle.layout.specs.Layout.{Sheet, sheet_size, feature_count, profiles_behind, bodies_at, profiles_part, flags_place}
use Rattle.sheet.specs.Facts.{Facts}
use Rattle.sheet.proofs.Accepted.{facts, length_profiles_part}
use Rattle.load.specs.Load.{is_in, lacks, loaded, load_fault, loading}
use Rattle.load.specs.inner.Beside.{flags_met}
use Rattle.load.specs.inner.Patch.{patched, sheet_patched}
use Rattle.load.proofs.Checked.{features_are, Loads, loads}
use Rattle.load.proofs.Patch.{length_patched}
use Rattle.load.proofs.Written.{patched_length, patched_loaded}

-- ---- the bytes

-- a copy of all that there is
pub copied : {d s e : List ℕ} {r : ℕ} → length d ≡ length s → Wrote d 0 (take (length s) (drop 0 s)) r e → e ≡ s
copied {d} {s} {e} {r} l w =
    let x : take (length s) (drop 0 s) ≡ s = take-length s in
    w.holds ∙ ap (sets d 0) x ∙ sets-eq s d 0 (omega arith) ∙ ap (λ (k : List ℕ). s ++ k) (drop_of_length-le d {i = 0 + length s} (omega arith)) ∙ append-nil s

-- the copy with its flags set has room for the profiles
pub set_room : (fs : List ℕ) (s : Sheet) {n at : ℕ} {part e g : List ℕ} → bodies_at s ≤ sheet_size s → n ≡ feature_count s → e ≡ s.bytes → g ≡ patched (flags_place s.layout n) (flags_met s fs) n e
    → at ≡ profiles_behind n → part ≡ profiles_part s → at + length part ≤ length g
set_room fs s {n} {at} {part} {e} {g} h c q r a p =
    omega (arith, c, a, ap length q, ap length p, ap length r, length_profiles_part s h, length_patched (flags_place s.layout n) (flags_met s fs) e n)

-- the copy, its flags set, its profiles set
pub put_all : (fs ps : List ℕ) (s : Sheet) {n at : ℕ} {part e g h : List ℕ} → n ≡ feature_count s → e ≡ s.bytes → g ≡ patched (flags_place s.layout n) (flags_met s fs) n e
    → at ≡ profiles_behind n → part ≡ profiles_part s → h ≡ patched (λ (i : ℕ). at + 4 * i + 2) (λ (i : ℕ). bit (is_in ps (profile_number part i))) (length part / 4) g → h ≡ sheet_patched fs ps s
unfolding sheet_patched
put_all fs ps s c q r a p z = z ∙ rw (r, q, a, p, c)

-- ---- the answers

module _ (fs ps : List ℕ) (s : Sheet) (d : List ℕ) where
  pub loading_fault : ((load_fault fs ps s).number ≡ 0 → ⊥) → loading fs ps s d ≡ refusing d (load_fault fs ps s)
  unfolding loading
  loading_fault h = makes_fault (load_fault fs ps s) 53 (loaded fs ps s).bytes d h

  module _ (b : Bytes s.bytes) (z : (load_fault fs ps s).number ≡ 0) where
    l : Loads fs ps s
    l = loads fs ps s z

    f : Facts s
    f = facts s b l.accepted

    -- what is written
    pub is_loaded : sheet_patched fs ps s ≡ (loaded fs ps s).bytes
    is_loaded = patched_loaded fs ps f l.ascending (ap (λ (k : List ℕ). lacks k fs) (sym (features_are s)) ∙ l.has) b

    pub loaded_size : sheet_size (loaded fs ps s) ≡ sheet_size s
    loaded_size = sym (ap length is_loaded) ∙ patched_length fs ps f

    pub loading_short : length d < sheet_size s → loading fs ps s d ≡ refusing d (refuse 53)
    unfolding loading
    loading_short h = makes_short (load_fault fs ps s) 53 (loaded fs ps s).bytes d z (λ q. omega arith) (omega (arith, loaded_size))

    pub loading_made : sheet_size s ≤ length d → loading fs ps s d ≡ making (loaded fs ps s).bytes d
    unfolding loading
    loading_made h = makes_made (load_fault fs ps s) 53 (loaded fs ps s).bytes d z (omega (arith, loaded_size))

-- ---- what the code finds

module _ (fs ps : List ℕ) (s : Sheet) (d : List ℕ) {v : Refusal} (b : Bytes s.bytes) (is : v ≡ load_fault fs ps s) where
  ok : v.number ≡ 0 → (load_fault fs ps s).number ≡ 0
  ok z = sym (ap (λ (r : Refusal). r.number) is) ∙ z

  pub refused_first : {m : Made} → (v.number ≡ 0 → ⊥) → m ≡ refused v → outcome m d ≡ loading fs ps s d
  unfolding refusing
  refused_first h e = ap (λ (n : Made). outcome n d) (e ∙ ap refused is) ∙ sym (loading_fault fs ps s d (λ z. h (ap (λ (r : Refusal). r.number) is ∙ z)))

  pub refused_short : {m : Made} → v.number ≡ 0 → length d < sheet_size s → m ≡ refused (refuse 53) → outcome m d ≡ loading fs ps s d
  unfolding refusing
  refused_short z h e = ap (λ (n : Made). outcome n d) e ∙ sym (loading_short fs ps s d b (ok z) h)

  pub has_room : v.number ≡ 0 → bodies_at s ≤ sheet_size s
  has_room z = (facts s b (loads fs ps s (ok z)).accepted).room

  -- the front of the buffer is the sheet, the rest as before
  pub all_written : {m : Made} {e x : List ℕ} → v.number ≡ 0 → sheet_size s ≤ length d → e ≡ sheet_patched fs ps s → x ≡ e ++ drop (sheet_size s) d → m ≡ written (sheet_size s) → outcome m x ≡ loading fs ps s d
  unfolding making
  all_written {m} {e} {x} z h w q r =
      let p : e ≡ (loaded fs ps s).bytes = w ∙ is_loaded fs ps s d b (ok z) in
      let n : length (loaded fs ps s).bytes ≡ sheet_size s = loaded_size fs ps s d b (ok z) in
      ap (λ (k : Made). outcome k x) r
      ∙ ap (outcome (written (sheet_size s))) (q ∙ ap (λ (k : List ℕ). k ++ drop (sheet_size s) d) p)
      ∙ ap (λ (k : ℕ). outcome (written k) ((loaded fs ps s).bytes ++ drop k d)) (sym n)
      ∙ sym (loading_made fs ps s d b (ok z) h)
