-- What is promised of loading, in other terms than its definition has: indices of the lists, entries of the sheet, bytes of the buffer; and that it is so. Code,
-- definition and laws that are changed together are refused by it. Assumes nothing.
use mathlib.Core.Path.{◌≡◌, refl, sym, ap, ap₂, subst, ◌∙◌}
use mathlib.Core.Logic.{◌⊎◌, inl, inr}
use mathlib.Core.Bool.{Bool, true, false, not, ◌||◌, true≢false}
use mathlib.Core.List.{List, ◌++◌}
use Prim.Native.Nat.{ℕ, suc, ◌+◌, ◌*◌, ◌-◌, ◌/◌, ◌%◌, ◌≤◌, ◌<◌}
use native.Mathlib.Omega.{arith}
use borrow.Author.Tests.{eq-eqb, ne_eqb}
use lib.Dec.{eqb}
use lib.ListN.{length, get_or, take, drop, length-append, length-drop, get_or-append}
use lib.Seq.{get_or-drop, get_or-append-add, take-append_seam}
use Rattle.base.specs.Lists.{each, Bytes}
use Rattle.refusal.specs.declared.Refusal.{Refusal}
use Rattle.refusal.specs.First.{refuse, accept, ◌if◌else◌}
use Rattle.refusal.proofs.First.{or_else_none, or_else_fault}
use Rattle.lent.specs.Maker.{Outcome, written, refusing, making}
use Rattle.text.specs.Flags.{persistent}
use Rattle.text.specs.Drive.{bit}
use Rattle.profiles.specs.Profiles.{profile_number}
use Rattle.layout.specs.Layout.{Sheet, stored, sheet_size, feature_count, profile_count, profiles_at, flags_place, number, flags, profiles_part}
use Rattle.layout.proofs.Laws.{fields_inside}
use Rattle.sheet.specs.Check.{verdict, Accepted}
use Rattle.sheet.specs.Facts.{Facts}
use Rattle.sheet.specs.Meaning.{meaning}
use Rattle.sheet.proofs.Accepted.{facts}
use Rattle.load.specs.Load.{is_in, ascends, lacks, feature_numbers, profile_numbers, flags_with, lists_fault, load_fault, loaded, loading}
use Rattle.load.specs.inner.Beside.{flags_met}
use Rattle.load.specs.inner.Patch.{sheet_patched}
use Rattle.load.proofs.Numbers.{ascends_at, ascends_all, in_at, in_nowhere, lacks_one, lacking_where, each_has, each_lacks}
use Rattle.load.proofs.With.{with_half, with_current}
use Rattle.load.proofs.Beside.{met_is}
use Rattle.load.proofs.Written.{patched_length, part_count, patched_kept, patched_flags, patched_current, patched_accepted}
use Rattle.load.proofs.Checked.{features_are, profiles_are, if_yes, if_no, loads}
use Rattle.load.proofs.Put.{is_loaded, loaded_size, loading_fault, loading_short, loading_made}

or_true : (a : Bool) → (a || true) ≡ true
or_true true = refl
or_true false = refl

-- ---- the lists

-- a number that is not above the one before
pub record Falls (ns : List ℕ) : Type 0 where
  pub at : ℕ
  pub inside : suc at < length ns
  pub low : get_or ns (suc at) 0 ≤ get_or ns at 0

-- n is listed
pub record In (ns : List ℕ) (n : ℕ) : Type 0 where
  pub at : ℕ
  pub inside : at < length ns
  pub is : get_or ns at 0 ≡ n

-- a listed number that none of so many of the sheet's own is
pub record Missing (own : ℕ → ℕ) (count : ℕ) (ns : List ℕ) : Type 0 where
  pub at : ℕ
  pub inside : at < length ns
  pub none : (i : ℕ) → i < count → own i ≡ get_or ns at 0 → ⊥

-- 51, either list
abbrev pub Unordered : (fs ps : List ℕ) → Type 0
Unordered fs ps = Falls fs ⊎ Falls ps

-- 52, a feature or a profile
abbrev pub Lacking : (fs ps : List ℕ) → Sheet → Type 0
Lacking fs ps s = Missing (number s) (feature_count s) fs ⊎ Missing (profile_number (profiles_part s)) (profile_count s) ps

-- ---- what is left in the buffer

-- Of the sheet s in a buffer d of its length or longer, e being the buffer afterwards
pub record Left (fs ps : List ℕ) (s : Sheet) (d e : List ℕ) : Type 0 where
  -- behind the sheet nothing changed
  pub long : length e ≡ length d
  pub behind : (x : ℕ) → sheet_size s ≤ x → get_or e x 0 ≡ get_or d x 0
  -- in front stands the sheet, but for the flags and the third byte of each profile
  pub same : (x : ℕ) → x < sheet_size s → ((i : ℕ) → i < feature_count s → x ≡ flags_place s.layout (feature_count s) i → ⊥)
      → ((i : ℕ) → i < profile_count s → x ≡ profiles_at s + 4 * i + 2 → ⊥) → get_or e x 0 ≡ get_or s.bytes x 0
  -- of the flags all bits but Current stay; it is 1 where the feature is Persistent or listed, and 0 elsewhere
  pub bits : (i : ℕ) → i < feature_count s → get_or e (flags_place s.layout (feature_count s) i) 0 / 2 ≡ flags s i / 2
  pub stays : (i : ℕ) → i < feature_count s → persistent (flags s i) ≡ 1 → get_or e (flags_place s.layout (feature_count s) i) 0 % 2 ≡ 1
  pub on : (i : ℕ) → i < feature_count s → In fs (number s i) → get_or e (flags_place s.layout (feature_count s) i) 0 % 2 ≡ 1
  pub off : (i : ℕ) → i < feature_count s → (persistent (flags s i) ≡ 1 → ⊥) → (In fs (number s i) → ⊥) → get_or e (flags_place s.layout (feature_count s) i) 0 % 2 ≡ 0
  -- a profile's third byte is 1 where it is listed, and 0 elsewhere
  pub profile_on : (i : ℕ) → i < profile_count s → In ps (profile_number (profiles_part s) i) → get_or e (profiles_at s + 4 * i + 2) 0 ≡ 1
  pub profile_off : (i : ℕ) → i < profile_count s → (In ps (profile_number (profiles_part s) i) → ⊥) → get_or e (profiles_at s + 4 * i + 2) 0 ≡ 0
  -- and it is accepted
  pub accepted : Accepted (stored s.layout (take (sheet_size s) e))

-- ---- a list's order, a list's numbers

falls : (ns : List ℕ) → Falls ns → ascends ns ≡ false
falls ns f = go (ascends ns) refl
  where
    go : (t : Bool) → ascends ns ≡ t → ascends ns ≡ false
    go true e = absurd (omega (arith, f.low, ascends_at ns e f.at (suc f.at) (omega arith) f.inside))
    go false e = e

rises : (ns : List ℕ) → (Falls ns → ⊥) → ascends ns ≡ true
rises ns h = ascends_all ns (λ i m l. h record { at = i; inside = m; low = l })

is_in_law : (ns : List ℕ) (n : ℕ) → In ns n → is_in ns n ≡ true
is_in_law ns n i = in_at ns n i.at i.inside i.is

is_not : (ns : List ℕ) (n : ℕ) → (In ns n → ⊥) → is_in ns n ≡ false
is_not ns n h = in_nowhere ns n (λ i m e. h record { at = i; inside = m; is = e })

module _ (own : ℕ → ℕ) (count : ℕ) (ns : List ℕ) where
  missing : Missing own count ns → lacks (each own 0 count) ns ≡ true
  missing m = lacks_one (each own 0 count) ns m.at m.inside (each_lacks own count (get_or ns m.at 0) m.none)

  has_all : (Missing own count ns → ⊥) → lacks (each own 0 count) ns ≡ false
  has_all h = go (lacks (each own 0 count) ns) refl
    where
      go : (t : Bool) → lacks (each own 0 count) ns ≡ t → lacks (each own 0 count) ns ≡ false
      go true e = absurd (lacking_where (each own 0 count) ns e (λ j l q. h record { at = j; inside = l; none = λ i m z. true≢false (sym (each_has own count (get_or ns j 0) i m z) ∙ q) }))
      go false e = e

-- ---- the refusals

module _ (fs ps : List ℕ) (s : Sheet) (k : Accepted s) where
  pub lists_are : load_fault fs ps s ≡ lists_fault fs ps (meaning s)
  unfolding load_fault
  lists_are = or_else_none (verdict s) (lists_fault fs ps (meaning s)) k

  -- 51
  pub unordered : Unordered fs ps → load_fault fs ps s ≡ refuse 51
  unfolding lists_fault
  unordered (inl f) = lists_are ∙ if_yes _ _ (ap (λ (t : Bool). not t || not (ascends ps)) (falls fs f))
  unordered (inr f) = lists_are ∙ if_yes _ _ (ap (λ (t : Bool). not (ascends fs) || not t) (falls ps f) ∙ or_true (not (ascends fs)))

  module _ (up : Unordered fs ps → ⊥) (b : Bytes s.bytes) where
    behind : load_fault fs ps s ≡ (refuse 52 if lacks (feature_numbers (meaning s)) fs || lacks (profile_numbers (meaning s)) ps else accept)
    unfolding lists_fault
    behind = lists_are ∙ if_no _ _ (ap₂ (λ (t u : Bool). not t || not u) (rises fs (λ f. up (inl f))) (rises ps (λ f. up (inr f))))

    f : Facts s
    f = facts s b k

    own : profile_numbers (meaning s) ≡ each (profile_number (profiles_part s)) 0 (profile_count s)
    own = profiles_are s ∙ ap (each (profile_number (profiles_part s)) 0) (part_count fs ps f)

    features_as : {t : Bool} → lacks (each (number s) 0 (feature_count s)) fs ≡ t → lacks (feature_numbers (meaning s)) fs ≡ t
    features_as e = ap (λ (l : List ℕ). lacks l fs) (features_are s) ∙ e

    profiles_as : {t : Bool} → lacks (each (profile_number (profiles_part s)) 0 (profile_count s)) ps ≡ t → lacks (profile_numbers (meaning s)) ps ≡ t
    profiles_as e = ap (λ (l : List ℕ). lacks l ps) own ∙ e

    -- 52
    pub lacking : Lacking fs ps s → load_fault fs ps s ≡ refuse 52
    lacking (inl m) = behind ∙ if_yes _ _ (ap (λ (t : Bool). t || lacks (profile_numbers (meaning s)) ps) (features_as (missing (number s) (feature_count s) fs m)))
    lacking (inr m) =
        behind ∙ if_yes _ _ (ap (λ (t : Bool). lacks (feature_numbers (meaning s)) fs || t) (profiles_as (missing (profile_number (profiles_part s)) (profile_count s) ps m))
        ∙ or_true (lacks (feature_numbers (meaning s)) fs))

    -- no entry has the number 0
    pub lacking_zero : In fs 0 → load_fault fs ps s ≡ refuse 52
    lacking_zero i = lacking (inl record { at = i.at; inside = i.inside; none = λ j l e. omega (arith, e, i.is, f.above j l) })

    module _ (there : Lacking fs ps s → ⊥) where
      none : lacks (each (number s) 0 (feature_count s)) fs ≡ false
      none = has_all (number s) (feature_count s) fs (λ m. there (inl m))

      pub fine : load_fault fs ps s ≡ accept
      fine =
          behind ∙ if_no _ _ (ap₂ (λ (t u : Bool). t || u) (features_as none) (profiles_as (has_all (profile_number (profiles_part s)) (profile_count s) ps (λ m. there (inr m)))))

      -- ---- what is left

      abbrev g : List ℕ
      g = sheet_patched fs ps s

      size : length g ≡ sheet_size s
      size = patched_length fs ps f

      module _ (d : List ℕ) (room : sheet_size s ≤ length d) where
        abbrev e : List ℕ
        e = g ++ drop (length g) d

        front : (x : ℕ) → x < sheet_size s → get_or e x 0 ≡ get_or g x 0
        front x h = get_or-append g (drop (length g) d) 0 x (omega (arith, size))

        flags_are : (i : ℕ) → i < feature_count s → get_or e (flags_place s.layout (feature_count s) i) 0 ≡ flags_with (is_in fs (number s i)) (flags s i)
        unfolding flags_met
        flags_are i h =
            front (flags_place s.layout (feature_count s) i) (omega (arith, (fields_inside s.layout (feature_count s) i h).flags, f.room))
            ∙ patched_flags fs ps f i h ∙ ap (λ (t : Bool). flags_with t (flags s i)) (met_is f fs (rises fs (λ q. up (inl q))) none i h)

        current_is : (i : ℕ) → i < feature_count s → {t : Bool} → (eqb (persistent (flags s i)) 1 || is_in fs (number s i)) ≡ t → get_or e (flags_place s.layout (feature_count s) i) 0 % 2 ≡ bit t
        current_is i h q = ap (λ (x : ℕ). x % 2) (flags_are i h) ∙ with_current (is_in fs (number s i)) (flags s i) ∙ ap bit q

        third : (i : ℕ) → i < profile_count s → get_or e (profiles_at s + 4 * i + 2) 0 ≡ bit (is_in ps (profile_number (profiles_part s) i))
        third i h = front (profiles_at s + 4 * i + 2) (omega (arith, f.room)) ∙ patched_current fs ps f i h

        left : Left fs ps s d e
        left = record {
          long = omega (arith, size, length-append g (drop (length g) d), length-drop (length g) d);
          behind = λ x h.
              let z : x ≡ length g + (x - length g) = omega (arith, size) in
              rw z (get_or-append-add g (drop (length g) d) (x - length g) 0 ∙ get_or-drop (length g) d (x - length g) 0);
          same = λ x h p q. front x h ∙ patched_kept fs ps f x p q;
          bits = λ i h. ap (λ (x : ℕ). x / 2) (flags_are i h) ∙ with_half (is_in fs (number s i)) (flags s i);
          stays = λ i h p. current_is i h (ap (λ (t : Bool). t || is_in fs (number s i)) (eq-eqb (persistent (flags s i)) 1 p));
          on = λ i h p. current_is i h (ap (λ (t : Bool). eqb (persistent (flags s i)) 1 || t) (is_in_law fs (number s i) p) ∙ or_true (eqb (persistent (flags s i)) 1));
          off = λ i h p q. current_is i h (ap₂ (λ (t u : Bool). t || u) (ne_eqb (persistent (flags s i)) 1 p) (is_not fs (number s i) q));
          profile_on = λ i h p. third i h ∙ ap bit (is_in_law ps (profile_number (profiles_part s) i) p);
          profile_off = λ i h p. third i h ∙ ap bit (is_not ps (profile_number (profiles_part s) i) p);
          accepted =
              let z : take (sheet_size s) e ≡ g = ap (λ (n : ℕ). take n e) (sym size) ∙ take-append_seam g (drop (length g) d) in
              rw z (patched_accepted fs ps f);
        }

-- ---- all of it

-- Of an outcome o of the sheet s, the features fs and the profiles ps that a medium makes current, and the buffer d
pub record Loads (fs ps : List ℕ) (s : Sheet) (d : List ℕ) (o : Outcome) : Type 0 where
  pub exact : o ≡ loading fs ps s d
  -- refused, in this order: the buffer is unchanged
  pub sheet : ((verdict s).number ≡ 0 → ⊥) → o ≡ refusing d (verdict s)
  pub order : Accepted s → Unordered fs ps → o ≡ refusing d (refuse 51)
  pub lacks : Accepted s → (Unordered fs ps → ⊥) → Bytes s.bytes → Lacking fs ps s → o ≡ refusing d (refuse 52)
  pub zero : Accepted s → (Unordered fs ps → ⊥) → Bytes s.bytes → In fs 0 → o ≡ refusing d (refuse 52)
  pub short : Accepted s → (Unordered fs ps → ⊥) → Bytes s.bytes → (Lacking fs ps s → ⊥) → length d < sheet_size s → o ≡ refusing d (refuse 53)
  -- else done
  pub done : Accepted s → (Unordered fs ps → ⊥) → Bytes s.bytes → (Lacking fs ps s → ⊥) → sheet_size s ≤ length d → (o.made ≡ written (sheet_size s)) × Left fs ps s d o.buffer

number_of : {a b : Refusal} → a ≡ b → a.number ≡ b.number
number_of e = ap (λ (r : Refusal). r.number) e

module _ (fs ps : List ℕ) (s : Sheet) (d : List ℕ) where
  given : (n : ℕ) → (n ≡ 0 → ⊥) → load_fault fs ps s ≡ refuse n → loading fs ps s d ≡ refusing d (refuse n)
  given n h e = loading_fault fs ps s d (λ z. h (sym (number_of e) ∙ z)) ∙ ap (refusing d) e

  sheet_fault : ((verdict s).number ≡ 0 → ⊥) → load_fault fs ps s ≡ verdict s
  unfolding load_fault
  sheet_fault h = or_else_fault (verdict s) _ h

  left_there : (k : Accepted s) (up : Unordered fs ps → ⊥) (b : Bytes s.bytes) (there : Lacking fs ps s → ⊥) (room : sheet_size s ≤ length d)
      → ((loading fs ps s d).made ≡ written (sheet_size s)) × Left fs ps s d (loading fs ps s d).buffer
  unfolding making
  left_there k up b there room =
      let z = number_of (fine fs ps s k up b there) in
      let m : loading fs ps s d ≡ making (loaded fs ps s).bytes d = loading_made fs ps s d b z room in
      let w : sheet_patched fs ps s ≡ (loaded fs ps s).bytes = is_loaded fs ps s d b z in (
        ap (λ (o : Outcome). o.made) m ∙ ap written (loaded_size fs ps s d b z),
        rw m (subst (λ (x : List ℕ). Left fs ps s d (x ++ drop (length x) d)) w (left fs ps s k up b there d room)),
      )

  pub loads_so : Loads fs ps s d (loading fs ps s d)
  loads_so = record {
    exact = refl;
    sheet = λ h. loading_fault fs ps s d (λ z. h (loads fs ps s z).accepted) ∙ ap (refusing d) (sheet_fault h);
    order = λ k u. given 51 (λ z. omega arith) (unordered fs ps s k u);
    lacks = λ k u b l. given 52 (λ z. omega arith) (lacking fs ps s k u b l);
    zero = λ k u b i. given 52 (λ z. omega arith) (lacking_zero fs ps s k u b i);
    short = λ k u b l h. loading_short fs ps s d b (number_of (fine fs ps s k u b l)) h;
    done = left_there;
  }
