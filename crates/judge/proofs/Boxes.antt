-- The boxes: what each states, and what comes of a header that is put over another. Assumes nothing.
use mathlib.Core.Path.{◌≡◌, refl, sym, ap, ap₂, ◌∙◌}
use mathlib.Core.Bool.{Bool, true, false}
use mathlib.Core.List.{List, [], ◌∷◌, ◌++◌}
use Prim.Native.Nat.{ℕ, zero, suc, ◌+◌, ◌-◌, ◌*◌, ◌%◌, ◌≤◌, ◌<◌}
use native.Mathlib.Numerals.{add-one}
use native.Mathlib.Omega.{arith}
use lib.Dec.{eqb}
use lib.ListN.{length, get_or, take, drop, replicate, length-append, length-drop, length-replicate}
use lib.Seq.{sets, length-take-le, take-append_seam, take_at}
use borrow.Author.Tests.{eq-eqb, ne_eqb, lt-ltb, le-ltb}
use Rattle.base.specs.Lists.{flat, each, Bytes}
use Rattle.fields.specs.Field.{field}
use Rattle.lent.specs.Wrote.{Wrote}
use Rattle.lent.specs.declared.Made.{Made}
use Rattle.lent.specs.Maker.{Outcome, outcome, making}
use Rattle.lent.proofs.Laws.{kept}
use Rattle.lent.proofs.Maker.{makes_made}
use Rattle.lent.proofs.Sets.{sets_out}
use Rattle.refusal.specs.First.{accept, ◌if◌else◌}
use Rattle.text.specs.Response.{bytes, selected, current_profile, header, data_length, full, most, sent}
use Rattle.text.proofs.Sizes.{length_header, length_full, data_length_low}
use Rattle.text.proofs.Sent.{length_sent}
use Rattle.profiles.specs.Profiles.{listed, profile_number, profile_current}
use Rattle.layout.specs.Layout.{Sheet}
use Rattle.sheet.specs.Check.{Accepted}
use Rattle.sheet.specs.Meaning.{meaning}
use Rattle.sheet.proofs.Meaning.{meaning_fine}
use Rattle.responder.specs.inner.Index.{taken_size}
use Rattle.responder.specs.Answer.{requested}
use Rattle.responder.specs.Trusting.{trusting}
use Rattle.responder.proofs.Full.{found_length}
use Rattle.responder.proofs.Trusting.{trusting_accepted}
use Rattle.judge.specs.declared.Stated.{Stated}
use Rattle.judge.specs.Boxes.{stating, sent_by, above, zero_for, raised, highest}
use Rattle.judge.specs.Verdict.{alone}

-- ---- Data Length

module _ (s : Sheet) (b : Bytes s.bytes) (ok : Accepted s) (rt sfn : ℕ) where
  -- how many bytes stand behind the header
  pub size_length : (n : ℕ) → n ≡ taken_size s rt sfn → 4 + n ≡ data_length (selected rt sfn (meaning s))
  unfolding data_length
  size_length n e = omega (arith, e, found_length s rt sfn b ok, length_full rt sfn (meaning s))

  -- they are counted in four bytes
  pub size_low : (n : ℕ) → n ≡ taken_size s rt sfn → 4 + n < 4294967296
  size_low n e = omega (arith, size_length n e, data_length_low (meaning_fine s b ok).sound rt sfn)

-- ---- what is stated

pub stated_as : (rt sfn n p : ℕ) {l q : ℕ} → n ≡ l → p ≡ q → stating rt sfn n p ≡ stating rt sfn l q
stated_as rt sfn n p e f = ap₂ (λ (x y : ℕ). stating rt sfn x y) e f

-- ---- the number behind SFN

pub above_two : (rt sfn r : ℕ) → 2 ≤ rt → r ≡ sfn → r ≡ above rt sfn
unfolding above ◌if◌else◌
above_two rt sfn r h e = e ∙ sym (rw (le-ltb rt 2 h))

pub above_last : (rt sfn r : ℕ) → rt < 2 → 65535 ≤ sfn → r ≡ sfn → r ≡ above rt sfn
unfolding above ◌if◌else◌
above_last rt sfn r h l e = e ∙ sym (rw (lt-ltb rt 2 h, le-ltb sfn 65535 l))

pub above_next : (rt sfn r : ℕ) → rt < 2 → sfn < 65535 → r ≡ sfn + 1 → r ≡ above rt sfn
unfolding above ◌if◌else◌
above_next rt sfn r h l e = e ∙ sym (rw (lt-ltb rt 2 h, lt-ltb sfn 65535 l))

-- ---- one RT taken for 0

pub zero_taken : (which rt r : ℕ) → rt ≡ which → r ≡ 0 → r ≡ zero_for which rt
unfolding zero_for ◌if◌else◌
zero_taken which rt r h e = e ∙ sym (rw (eq-eqb rt which h))

pub zero_left : (which rt r : ℕ) → (rt ≡ which → ⊥) → r ≡ rt → r ≡ zero_for which rt
unfolding zero_for ◌if◌else◌
zero_left which rt r h e = e ∙ sym (rw (ne_eqb rt which h))

-- ---- the highest profile

module _ (every on : Bool) (n h : ℕ) where
  pub raised_low : n ≤ h → h ≡ raised every on n h
  unfolding raised ◌if◌else◌
  raised_low l = sym (rw (le-ltb h n l))

  pub raised_every : h < n → every ≡ true → n ≡ raised every on n h
  unfolding raised ◌if◌else◌
  raised_every l e = sym (rw (lt-ltb h n l, e))

  pub raised_on : h < n → every ≡ false → on ≡ true → n ≡ raised every on n h
  unfolding raised ◌if◌else◌
  raised_on l e o = sym (rw (lt-ltb h n l, e, o))

  pub raised_off : h < n → every ≡ false → on ≡ false → h ≡ raised every on n h
  unfolding raised ◌if◌else◌
  raised_off l e o = sym (rw (lt-ltb h n l, e, o))

module _ (every : Bool) (b : List ℕ) (w n i h : ℕ) (e : w ≡ highest every (each (listed b) i (n - i)) h) where
  pub highest_go : (x y r : ℕ) → i < n → x ≡ get_or b (4 * i + 2) 0 → y ≡ field 2 b (4 * i) → r ≡ raised every (eqb (x % 2) 1) y h → w ≡ highest every (each (listed b) (i + 1) (n - (i + 1))) r
  unfolding each listed profile_number profile_current highest
  highest_go x y r l p q k =
      e ∙ ap (λ (j : ℕ). highest every (each (listed b) i j) h) {x = n - i} {y = suc (n - suc i)} (omega arith)
      ∙ rw (k, p, q, add-one) refl

  pub highest_end : n ≤ i → h ≡ w
  unfolding each highest
  highest_end l = sym (e ∙ ap (λ (j : ℕ). highest every (each (listed b) i j) h) {x = n - i} {y = 0} (omega arith))

-- ---- a header over another

sets_behind : (a : ℕ) (l : List ℕ) (i : ℕ) (vs : List ℕ) → sets (a ∷ l) (suc i) vs ≡ a ∷ sets l i vs
sets_behind a l i [] = refl
sets_behind a l i (v ∷ vs) = sets_behind a _ (suc i) vs

pub over : (h g rest : List ℕ) (k : ℕ) → length h ≡ length g → sets (take k (h ++ rest)) 0 g ≡ take k (g ++ rest)
over [] [] rest k e = refl
over [] (y ∷ g) rest k e = absurd (omega arith)
over (x ∷ h) [] rest k e = absurd (omega arith)
over (x ∷ h) (y ∷ g) rest zero e = sets_out [] 0 (y ∷ g) (omega arith)
over (x ∷ h) (y ∷ g) rest (suc k) e = sets_behind y (take k (h ++ rest)) 0 g ∙ ap (λ (l : List ℕ). y ∷ l) (over h g rest k (omega (arith, e)))

-- ---- what is sent

module _ (s : Sheet) (y : Bytes s.bytes) (ok : Accepted s) (rt sfn a : ℕ) (d : List ℕ) (room : most a ≤ length d) (m : Made) (d1 : List ℕ) (e : outcome m d1 ≡ trusting s rt sfn a d) where
  abbrev xs : List ℕ
  xs = sent rt sfn a (meaning s)

  sent_room : length xs ≤ length d
  sent_room = omega (arith, length_sent rt sfn a (meaning s))

  made_is : outcome m d1 ≡ making xs d
  unfolding requested
  made_is = e ∙ trusting_accepted s y ok rt sfn a d ∙ makes_made accept 12 xs d refl sent_room

  sent_count : m.count ≡ length xs
  unfolding making
  sent_count = ap (λ (o : Outcome). o.made.count) made_is

  sent_buffer : d1 ≡ xs ++ drop (length xs) d
  unfolding making
  sent_buffer = ap (λ (o : Outcome). o.buffer) made_is

  pub sent_inside : m.count ≤ length d1
  sent_inside = omega (arith, sent_count, ap length sent_buffer, length-append xs (drop (length xs) d))

  sent_length : length d1 ≡ length d
  sent_length = ap length sent_buffer ∙ omega (arith, length-append xs (drop (length xs) d), length-drop (length xs) d, sent_room)

  sent_front : take m.count d1 ≡ xs
  sent_front = rw (sent_count, sent_buffer) (take-append_seam xs (drop (length xs) d))

  -- a header is put over the front
  module _ (b : Stated) (rt-is : rt ≡ b.rt) (sfn-is : sfn ≡ b.sfn.0) (r : ℕ) (f : List ℕ) (w : Wrote (take m.count d1) 0 (header b.data_length b.profile.0) r f) where
    stated_front : f ≡ sent_by b a (meaning s)
    unfolding sent_by sent full
    stated_front =
        w.holds
        ∙ ap (λ (l : List ℕ). sets l 0 (header b.data_length b.profile.0)) sent_front
        ∙ over (header (data_length (selected rt sfn (meaning s))) (current_profile (meaning s).profiles)) (header b.data_length b.profile.0) (flat bytes (selected rt sfn (meaning s))) (most a)
        (length_header (data_length (selected rt sfn (meaning s))) (current_profile (meaning s).profiles) ∙ sym (length_header b.data_length b.profile.0))
        ∙ rw (rt-is, sfn-is) refl

    front_length : length f ≡ m.count
    front_length = kept w ∙ length-take-le m.count d1 sent_inside

    stated_length_here : length (f ++ drop m.count d1) ≡ length d
    stated_length_here = omega (arith, length-append f (drop m.count d1), length-drop m.count d1, front_length, sent_inside, sent_length)

    stated_inside : m.count ≤ length (f ++ drop m.count d1)
    stated_inside = omega (arith, stated_length_here, sent_length, sent_inside)

    pub stated : (m.count ≤ length (f ++ drop m.count d1)) × (length (f ++ drop m.count d1) ≡ length d) × (take m.count (f ++ drop m.count d1) ≡ sent_by b a (meaning s))
    stated = (stated_inside, stated_length_here, take_at f (drop m.count d1) m.count front_length ∙ stated_front)

drop_zeros : (n k : ℕ) → drop {A = ℕ} k (replicate n 0) ≡ replicate (n - k) 0
drop_zeros n zero = ap (λ (k : ℕ). replicate {A = ℕ} k 0) {x = n} {y = n - 0} (omega arith)
drop_zeros zero (suc k) = ap (λ (n : ℕ). replicate {A = ℕ} n 0) {x = 0} {y = 0 - suc k} (omega arith)
drop_zeros (suc n) (suc k) = drop_zeros n k ∙ ap (λ (m : ℕ). replicate {A = ℕ} m 0) {x = n - k} {y = suc n - suc k} (omega arith)

-- what the right box sends over a buffer d that was cleared before, to z
module _ (s : Sheet) (y : Bytes s.bytes) (ok : Accepted s) (rt sfn a : ℕ) (d z : List ℕ) (room : most a ≤ length d) (zeros : z ≡ replicate (length d) 0) (m : Made) (d1 : List ℕ) (e : outcome m d1 ≡ trusting s rt sfn a z) where
  long : length z ≡ length d
  long = ap length zeros ∙ length-replicate {A = ℕ} (length d) 0

  wide : most a ≤ length z
  wide = omega (arith, room, long)

  behind : (xs : List ℕ) → xs ++ drop (length xs) z ≡ alone xs (length d)
  unfolding alone
  behind xs = ap (λ (l : List ℕ). xs ++ l) (ap (drop (length xs)) zeros ∙ drop_zeros (length d) (length xs))

  pub due_put : (m.count ≤ length d1) × (length d1 ≡ length d) × (take m.count d1 ≡ sent rt sfn a (meaning s)) × (d1 ≡ alone (sent rt sfn a (meaning s)) (length d))
  due_put = (
    sent_inside s y ok rt sfn a z wide m d1 e,
    sent_length s y ok rt sfn a z wide m d1 e ∙ long,
    sent_front s y ok rt sfn a z wide m d1 e,
    sent_buffer s y ok rt sfn a z wide m d1 e ∙ behind (sent rt sfn a (meaning s)),
  )
