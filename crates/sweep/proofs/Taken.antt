-- What the code decides from the numbers of a scan is the step: refused by the record, refused by the response, or taken. Assumes nothing.
use mathlib.Core.Path.{◌≡◌, refl, sym, ap, ap₂, ◌∙◌}
use mathlib.Core.Bool.{Bool, true, false, not, ◌&&◌}
use mathlib.Core.List.{List}
use Prim.Native.Nat.{ℕ, zero, suc, ◌+◌, ◌-◌, ◌≤◌, ◌<◌}
use native.Mathlib.Omega.{arith}
use lib.Dec.{ltb, eqb}
use lib.ListN.{length, take, drop}
use borrow.Author.Tests.{lt-ltb, ne_eqb}
use Rattle.base.specs.Lists.{flat, Bytes}
use Rattle.lent.specs.Wrote.{Wrote}
use Rattle.lent.proofs.Laws.{placed}
use Rattle.refusal.specs.declared.Refusal.{Refusal}
use Rattle.refusal.specs.First.{refuse, accept, ◌if◌else◌, ◌or_else◌}
use Rattle.text.specs.Drive.{Desc}
use Rattle.text.specs.Response.{bytes, most}
use Rattle.text.specs.Reading.{stated_end, stated_profile, nothing_read, taken, read_fault, last_number}
use Rattle.refusal.proofs.First.{or_else_none, or_else_fault}
use Rattle.text.proofs.Walk.{wholes_accepted}
use Rattle.text.proofs.Again.{walked_again}
use Rattle.text.proofs.Received.{reading_cases, reading_none}
use Rattle.reading.specs.declared.Scanned.{Scanned}
use Rattle.reading.specs.Scan.{scanned}
use Rattle.sweep.specs.declared.Sweep.{Sweep}
use Rattle.sweep.specs.declared.Step.{Step}
use Rattle.sweep.specs.Sweep.{step, cut, wholes_of, changed, room_rule, take_fault, left_by, advanced, turn, taking, stepped}
use Rattle.sweep.specs.inner.Numbers.{closed_rule, short_rule, profile_rule, cut_rule, space_rule, scan_rule}
use Rattle.sweep.proofs.Cases.{stepped_fault, stepped_none, Taken, taken_facts, closed_first, take_accepts}

-- ---- the rules of a scan are those of the definition

one : (k : ℕ) (b : Bool) (z : Refusal) → ((refuse (suc k) if b else accept) or_else z) ≡ (refuse (suc k) if b else z)
unfolding ◌if◌else◌
one k true z = or_else_fault (refuse (suc k)) z (λ e. omega arith)
one k false z = or_else_none accept z refl

two : (j k : ℕ) (a b : Bool) (z : Refusal)
    → ((refuse (suc j) if a else refuse (suc k) if b else accept) or_else z) ≡ (refuse (suc j) if a else refuse (suc k) if b else z)
unfolding ◌if◌else◌
two j k true b z = or_else_fault (refuse (suc j)) z (λ e. omega arith)
two j k false b z = one k b z

-- another profile, with commands so far
profile_is : (c held p : ℕ) → profile_rule c held p ≡ (refuse 45 if ltb 0 c && not (eqb p held) else accept)
unfolding profile_rule ◌if◌else◌
profile_is zero held p = refl
profile_is (suc c) held p = rw (ne_eqb (suc c) 0 (λ z. omega arith), lt-ltb 0 (suc c) (omega arith)) (go (eqb p held))
  where
    go : (b : Bool) → (accept if b else refuse 45) ≡ (refuse 45 if not b else accept)
    go true = refl
    go false = refl

module _ (w : Sweep) (s : List ℕ) (room : ℕ) where
  short_is : (b : Bool) → eqb (length s) (stated_end s) ≡ b → short_rule b (length s) (most w.allocation) ≡ (refuse 28 if cut s && ltb (length s) (most w.allocation) else accept)
  unfolding short_rule cut ◌if◌else◌
  short_is true e = rw (e, cut)
  short_is false e = rw (e, cut)

  cut_is : (b : Bool) → eqb (length s) (stated_end s) ≡ b
      → cut_rule b (length (wholes_of w s)) (last_number (wholes_of w s))
      ≡ (refuse 23 if cut s && eqb (length (wholes_of w s)) 0 else refuse 27 if cut s && eqb (last_number (wholes_of w s)) 65535 else accept)
  unfolding cut_rule cut ◌if◌else◌
  cut_is true e = rw (e, cut)
  cut_is false e = rw (e, cut)

  -- 28, 45, 23, 27, 24 one by one
  room_rules : (short_rule (eqb (length s) (stated_end s)) (length s) (most w.allocation) or_else
      profile_rule w.commands w.profile.0 (stated_profile s) or_else
      cut_rule (eqb (length s) (stated_end s)) (length (wholes_of w s)) (last_number (wholes_of w s)) or_else
      space_rule w.collected (length (flat bytes (wholes_of w s))) room)
      ≡ room_rule w s room
  unfolding space_rule changed
  room_rules =
      rw (short_is (eqb (length s) (stated_end s)) refl, profile_is w.commands w.profile.0 (stated_profile s), cut_is (eqb (length s) (stated_end s)) refl)
      (one 27 _ _ ∙ ap (λ (z : Refusal). refuse 28 if cut s && ltb (length s) (most w.allocation) else z)
      (one 44 _ _ ∙ ap (λ (z : Refusal). refuse 45 if ltb 0 w.commands && not (eqb (stated_profile s) w.profile.0) else z) (two 22 26 _ _ _)))

  -- the reading's refusal, then those of the room
  scan_room : scan_rule w (scanned (most w.allocation) w.rt w.next.0 s) (length s) room
      ≡ (read_fault (most w.allocation) w.rt w.next.0 s or_else room_rule w s room)
  unfolding scan_rule scanned nothing_read taken wholes_of
  scan_room =
      reading_cases (most w.allocation) w.rt w.next.0 s
      (λ r ds.
      (r.refusal or_else short_rule r.complete (length s) (most w.allocation) or_else profile_rule w.commands w.profile.0 r.profile.0 or_else cut_rule r.complete r.count (last_number ds) or_else space_rule w.collected (r.end - 8) room)
      ≡ (read_fault (most w.allocation) w.rt w.next.0 s or_else room_rule w s room))
      (λ k. or_else_fault _ _ k ∙ sym (or_else_fault _ _ k))
      (λ k.
      let n : 8 + length (flat bytes (wholes_of w s)) - 8 ≡ length (flat bytes (wholes_of w s)) = omega arith in
      rw n (or_else_none _ _ refl ∙ room_rules ∙ sym (or_else_none _ _ k)))

-- ---- what a scan shows of an accepted response with the whole descriptors ds

unfoldable seen : List ℕ → List Desc → Scanned
seen s ds = record { reading = taken s ds; last = record { 0 = last_number ds } }

seen_moved : (w : Sweep) (s : List ℕ) (ds : List Desc) (n : ℕ)
    → advanced w (seen s ds).reading.profile (not (seen s ds).reading.complete) (seen s ds).last.0 n ≡ advanced w record { 0 = stated_profile s } (cut s) (last_number ds) n
unfolding seen taken cut
seen_moved w s ds n = refl

-- ---- the step

module _ (w : Sweep) (s out : List ℕ) where
  refused_step : (r : Refusal) (t : Step) → r ≡ take_fault w s (length out) → (r.number ≡ 0 → ⊥) → t ≡ step r (left_by r w) → turn t out ≡ stepped w s out
  refused_step r t q h p =
      ap (λ (x : Step). turn x out) (p ∙ ap (λ (x : Refusal). step x (left_by x w)) q) ∙ sym (stepped_fault w s out (rw (← q) h))

  module _ (r : Refusal) (q : r ≡ closed_rule w) where
    -- the record refuses every response
    pub take_closed : (r.number ≡ 0 → ⊥) → (t : Step) → t ≡ step r (left_by r w) → turn t out ≡ stepped w s out
    take_closed h t p = refused_step r t (q ∙ sym (closed_first w s (length out) ∙ or_else_fault _ _ (rw (← q) h))) h p

    -- it is open, and the response is scanned
    module _ (k : r.number ≡ 0) (m : ℕ) (l : m ≡ most w.allocation) (x : Scanned) (p : x ≡ scanned m w.rt w.next.0 s)
        (f : Refusal) (u : f ≡ scan_rule w x (length s) (length out)) where
      scan_is : x ≡ scanned (most w.allocation) w.rt w.next.0 s
      scan_is = rw (← l) p

      fault_is : f ≡ take_fault w s (length out)
      fault_is =
          u ∙ ap (λ (y : Scanned). scan_rule w y (length s) (length out)) scan_is ∙ scan_room w s (length out)
          ∙ sym (closed_first w s (length out) ∙ or_else_none _ _ (rw (← q) k))

      -- the response is refused
      pub take_refused : (f.number ≡ 0 → ⊥) → (t : Step) → t ≡ step f (left_by f w) → turn t out ≡ stepped w s out
      take_refused h t e = refused_step f t fault_is h e

      -- it is accepted
      module _ (h : f.number ≡ 0) where
        fault_zero : (take_fault w s (length out)).number ≡ 0
        fault_zero = rw (← fault_is) h

        facts : Taken w s (length out)
        facts = taken_facts w s (length out) fault_zero

        scan_seen : x ≡ seen s (wholes_of w s)
        unfolding scanned seen wholes_of
        scan_seen = scan_is ∙ rw (reading_none _ _ _ s facts.read, wholes_accepted _ _ _ s facts.read)

        pub take_commands : w.commands < 65536
        take_commands = omega (arith, facts.few)

        pub take_last : x.reading.complete ≡ false → x.last.0 ≡ 65535 → ⊥
        unfolding seen taken cut
        take_last = rw scan_seen (λ c. facts.below (ap not c))

        scan_size : x.reading.end - 8 ≡ length (flat bytes (wholes_of w s))
        unfolding seen taken
        scan_size = rw scan_seen (omega arith)

        -- the part of the response that has them was written behind what was collected, and ends at n
        module _ (b : Bytes s) (n size : ℕ) (part e : List ℕ) (i : size ≡ x.reading.end - 8) (j : part ≡ take size (drop 8 s)) (o : Wrote out w.collected part n e) where
          part_found : flat bytes (wholes_of w s) ≡ part
          unfolding wholes_of
          part_found = walked_again w.rt w.next.0 s b ∙ ap (λ (y : ℕ). take y (drop 8 s)) (sym (i ∙ scan_size)) ∙ sym j

          part_fits : w.collected + length part ≤ length out
          part_fits = rw (← part_found) facts.fits

          pub take_taken : (v : Sweep) → v ≡ advanced w x.reading.profile (not x.reading.complete) x.last.0 n → turn (step f v) e ≡ stepped w s out
          unfolding taking
          take_taken v t =
              let y : n ≡ w.collected + length (flat bytes (wholes_of w s)) = omega (arith, ap length part_found, part_fits, o.next) in
              let z : v ≡ advanced w record { 0 = stated_profile s } (cut s) (last_number (wholes_of w s)) (w.collected + length (flat bytes (wholes_of w s))) =
              t ∙ ap (λ (c : Scanned). advanced w c.reading.profile (not c.reading.complete) c.last.0 n) scan_seen ∙ seen_moved w s (wholes_of w s) n ∙ ap (advanced w record { 0 = stated_profile s } (cut s) (last_number (wholes_of w s))) y in
              ap₂ (λ (a : Refusal) (c : Sweep). turn (step a c) e) (fault_is ∙ take_accepts w s out fault_zero) z
              ∙ ap (turn _) (rw (← part_found) at (placed o part_fits))
              ∙ sym (stepped_none w s out fault_zero)
