-- A round against a drive that the text can speak of: what its record answers, and what it is afterwards. Assumes nothing.
use mathlib.Core.Path.{◌≡◌, refl, ap, ◌∙◌}
use mathlib.Core.Logic.{◌⊎◌, inl, inr, ⊎_elim}
use mathlib.Core.Bool.{true, false, not, ◌&&◌}
use mathlib.Core.List.{List, []}
use Prim.Native.Nat.{ℕ, zero, suc, ◌+◌, ◌≤◌, ◌<◌}
use native.Mathlib.Numerals.{add-one}
use native.Mathlib.Omega.{arith}
use lib.Dec.{ltb, eqb}
use lib.ListN.{length, set}
use lib.Seq.{sets, sets-eq}
use borrow.Author.Tests.{le-leb, lt-leb, le-ltb, lt-ltb, eq-eqb, ne_eqb}
use Rattle.base.specs.Lists.{flat}
use Rattle.refusal.specs.First.{refuse, accept, ◌if◌else◌, pick_zero, ◌or_else◌}
use Rattle.text.specs.Drive.{Desc, Drive, Sound}
use Rattle.text.specs.declared.Profile.{Profile}
use Rattle.text.specs.Response.{bytes, current_profile, selected, full, sent, most}
use Rattle.text.specs.Reading.{Walked, stated_profile, last_number}
use Rattle.text.specs.Packing.{whole, rest, groups}
use Rattle.refusal.proofs.First.{if_true, if_false}
use Rattle.base.proofs.Compare.{le_or_lt}
use Rattle.text.proofs.Sent.{length_sent}
use Rattle.text.proofs.Own.{stated_profile_sent, walked_sent, read_fault_sent, complete_sent, complete_none, cut_some}
use Rattle.text.proofs.Next.{next_low}
use Rattle.sweep.specs.declared.Sweep.{Sweep}
use Rattle.sweep.specs.Sweep.{start_rule, room_rule, take_fault, cut, wholes_of, changed, held_profile, advanced, taking}
use Rattle.sweep.proofs.Cases.{stepped_none}
use Rattle.bench.specs.Bench.{Buffers, buffers, state, filled, rounded}
use Rattle.bench.specs.Swept.{room}

-- the Current Profile that a record holds after c commands against the drive m
unfoldable pub held_after : Drive → (c : ℕ) → ℕ
held_after m zero = 0
held_after m (suc c) = current_profile m.profiles

-- a record that goes on, and one that has ended
abbrev pub going : (m : Drive) (rt a f c k : ℕ) → Sweep
going m rt a f c k = record { rt = rt; allocation = a; next = record { 0 = f }; commands = c; collected = k; ended = false; profile = record { 0 = held_after m c } }

abbrev pub gone : (m : Drive) (rt a f c k : ℕ) → Sweep
gone m rt a f c k = record { rt = rt; allocation = a; next = record { 0 = f }; commands = c; collected = k; ended = true; profile = record { 0 = held_after m c } }

-- what a response to allocation length a from start f has whole, and what it leaves
abbrev pub fits : (m : Drive) (rt a f : ℕ) → List Desc
fits m rt a f = whole (room a) (selected rt f m)

abbrev pub left : (m : Drive) (rt a f : ℕ) → List Desc
left m rt a f = rest (room a) (selected rt f m)

-- how many bytes it adds to those collected, and the next start behind it
abbrev pub gain : (m : Drive) (rt a f : ℕ) → ℕ
gain m rt a f = length (flat bytes (fits m rt a f))

abbrev pub later : (m : Drive) (rt a f : ℕ) → ℕ
later m rt a f = last_number (fits m rt a f) + 1

-- what each of at most n rounds from f on takes
abbrev pub plan : (m : Drive) (rt a n f : ℕ) → List (List Desc)
plan m rt a n f = groups (room a) n (selected rt f m)

-- a round that takes something, or leaves nothing
abbrev pub Takes : (m : Drive) (rt a f : ℕ) → Type 0
Takes m rt a f = (left m rt a f ≡ []) ⊎ ((0 < length (left m rt a f)) × (0 < length (fits m rt a f)))

-- the buffers after a round from start f with c commands and k bytes before it
abbrev pub onto : (m : Drive) (rt a f c k : ℕ) → Buffers → Buffers
onto m rt a f c k bs = buffers (filled (sent rt f a m) bs.response) (sets bs.collected k (flat bytes (fits m rt a f))) (set bs.starts c f)

module _ {m : Drive} (good : Sound m) (rt a f : ℕ) (eight : 8 ≤ a) where
  -- cut exactly if something is left
  pub cut_none : left m rt a f ≡ [] → cut (sent rt f a m) ≡ false
  unfolding cut
  cut_none e = ⊎_elim
      (λ (h : length (full rt f m) ≤ most a). rw (complete_sent good rt f a eight, le-leb (length (full rt f m)) (most a) h))
      (λ (h : most a < length (full rt f m)). absurd (omega (arith, cut_some rt f a m eight h, ap length e)))
      (le_or_lt (length (full rt f m)) (most a))

  pub cut_yes : 0 < length (left m rt a f) → cut (sent rt f a m) ≡ true
  unfolding cut
  cut_yes l = ⊎_elim
      (λ (h : length (full rt f m) ≤ most a). absurd (omega (arith, ap length (complete_none rt f a m eight h))))
      (λ (h : most a < length (full rt f m)). rw (complete_sent good rt f a eight, lt-leb (length (full rt f m)) (most a) h))
      (le_or_lt (length (full rt f m)) (most a))

  -- then it has C bytes
  pub cut_long : 0 < length (left m rt a f) → length (sent rt f a m) ≡ most a
  cut_long l = ⊎_elim
      (λ (h : length (full rt f m) ≤ most a). absurd (omega (arith, ap length (complete_none rt f a m eight h))))
      (λ (h : most a < length (full rt f m)). omega (arith, length_sent rt f a m))
      (le_or_lt (length (full rt f m)) (most a))

  module _ (two : rt < 2) (c k : ℕ) (few : c ≤ 65535) where
    found_sent : wholes_of (going m rt a f c k) (sent rt f a m) ≡ fits m rt a f
    unfolding wholes_of
    found_sent = ap (λ (w : Walked). w.found) (walked_sent good rt f a eight)

    -- the box's responses all have one profile: it is never 45
    same_profile : changed (going m rt a f c k) (sent rt f a m) ≡ false
    unfolding changed held_after
    same_profile = go c
      where
        go : (c : ℕ) → (ltb 0 c && not (eqb (stated_profile (sent rt f a m)) (held_after m c))) ≡ false
        go zero = refl
        go (suc c) = rw (lt-ltb 0 (suc c) (omega arith), stated_profile_sent good rt f a eight, eq-eqb (current_profile m.profiles) (current_profile m.profiles) refl)

    -- and the record holds it from then on
    held_next : held_profile (going m rt a f c k) record { 0 = stated_profile (sent rt f a m) } ≡ record { 0 = held_after m (c + 1) }
    unfolding held_profile held_after
    held_next = go c
      where
        next : ℕ → Profile
        next c = record { 0 = held_after m (c + 1) }

        go : (c : ℕ) → elim (eqb c 0) [ true ↦ record { 0 = stated_profile (sent rt f a m) } | false ↦ record { 0 = held_after m c } ] ≡ next c
        go zero = rw (stated_profile_sent good rt f a eight)
        go (suc c) = rw (ne_eqb (suc c) 0 (λ z. omega arith), add-one (suc c))

    -- neither 21, 22, 26 nor a number of the reading
    take_room : (n : ℕ) → take_fault (going m rt a f c k) (sent rt f a m) n ≡ room_rule (going m rt a f c k) (sent rt f a m) n
    unfolding take_fault start_rule ◌if◌else◌ ◌or_else◌ pick_zero
    take_room n =
        let h : rt ≤ 1 = omega arith in
        rw (le-ltb 1 rt h, le-ltb a 8 eight, le-ltb 65535 c few, read_fault_sent good rt f a eight (most a) (omega arith) (omega arith))

    -- it is refused only for want of room
    take_rule : Takes m rt a f → (n : ℕ) → take_fault (going m rt a f c k) (sent rt f a m) n ≡ (refuse 24 if ltb n (k + gain m rt a f) else accept)
    unfolding ◌if◌else◌
    take_rule t n =
        take_room n ∙ ⊎_elim
        (λ (e : left m rt a f ≡ []). rw (cut_none e, same_profile, found_sent))
        (λ (l : (0 < length (left m rt a f)) × (0 < length (fits m rt a f))).
        let h : most a ≤ length (sent rt f a m) = omega (arith, cut_long l.0) in
        rw (cut_yes l.0, le-ltb (length (sent rt f a m)) (most a) h, same_profile, found_sent, ne_eqb (length (fits m rt a f)) 0 (λ z. omega (arith, l.1)), ne_eqb (last_number (fits m rt a f)) 65535 (λ z. omega (arith, next_low good rt (room a) f l.1 l.0))))
        t

    pub take_narrow : Takes m rt a f → (n : ℕ) → n < k + gain m rt a f → take_fault (going m rt a f c k) (sent rt f a m) n ≡ refuse 24
    take_narrow t n h = take_rule t n ∙ rw (lt-ltb n (k + gain m rt a f) h) (if_true (refuse 24) accept)

    pub take_fine : Takes m rt a f → (n : ℕ) → k + gain m rt a f ≤ n → take_fault (going m rt a f c k) (sent rt f a m) n ≡ accept
    take_fine t n h = take_rule t n ∙ rw (le-ltb n (k + gain m rt a f) h) (if_false (refuse 24) accept)

    -- a round that takes nothing and leaves something
    pub take_stuck : fits m rt a f ≡ [] → 0 < length (left m rt a f) → (n : ℕ) → take_fault (going m rt a f c k) (sent rt f a m) n ≡ refuse 23
    unfolding ◌if◌else◌
    take_stuck e l n =
        let h : most a ≤ length (sent rt f a m) = omega (arith, cut_long l) in
        take_room n ∙ rw (cut_yes l, le-ltb (length (sent rt f a m)) (most a) h, same_profile, found_sent, e)

    -- a round that is accepted
    module _ (bs : Buffers) (fine : Takes m rt a f) (space : k + gain m rt a f ≤ length bs.collected) where
      round_fine : rounded m (state (going m rt a f c k) bs)
          ≡ state (advanced (going m rt a f c k) record { 0 = stated_profile (sent rt f a m) } (cut (sent rt f a m)) (last_number (fits m rt a f)) (k + gain m rt a f)) (onto m rt a f c k bs)
      unfolding rounded taking
      round_fine = rw (
        stepped_none (going m rt a f c k) (sent rt f a m) bs.collected (rw (take_fine fine (length bs.collected) space) refl),
        found_sent,
        ← sets-eq (flat bytes (fits m rt a f)) bs.collected k space,
      )

    module _ (bs : Buffers) (space : k + gain m rt a f ≤ length bs.collected) where
      -- the last round
      pub round_last : left m rt a f ≡ [] → rounded m (state (going m rt a f c k) bs) ≡ state (gone m rt a f (c + 1) (k + gain m rt a f)) (onto m rt a f c k bs)
      unfolding advanced
      round_last e = round_fine bs (inl e) space ∙ rw (cut_none e, held_next)

      -- a round with another behind it
      pub round_more : 0 < length (left m rt a f) → 0 < length (fits m rt a f) → rounded m (state (going m rt a f c k) bs)
          ≡ state (going m rt a (later m rt a f) (c + 1) (k + gain m rt a f)) (onto m rt a f c k bs)
      unfolding advanced
      round_more l h = round_fine bs (inr (l, h)) space ∙ rw (cut_yes l, held_next)
