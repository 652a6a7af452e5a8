-- Demand 3: the bench sweep of an accepted sheet, and how it can end whatever the room. Assumes nothing.
use mathlib.Core.Path.{◌≡◌, refl, ap, ◌∙◌}
use mathlib.Core.Logic.{◌⊎◌, ⊎_elim}
use mathlib.Core.List.{List, ◌∷◌, ◌++◌}
use Prim.Native.Nat.{ℕ, ◌-◌, ◌*◌, ◌≤◌, ◌<◌}
use native.Mathlib.Nat.{zero-add}
use native.Mathlib.Omega.{arith}
use lib.Dec.{ltb}
use lib.ListN.{length, drop}
use lib.Seq.{sets, sets-eq}
use borrow.Author.Tests.{le-ltb, lt-ltb, ltb-false}
use Rattle.base.specs.Lists.{flat, keep, All, Bytes}
use Rattle.base.proofs.Lists.{all_right}
use Rattle.refusal.specs.First.{refuse, accept, ◌if◌else◌, pick_zero, ◌or_else◌}
use Rattle.text.specs.Drive.{Desc, Drive, Sound}
use Rattle.text.specs.Response.{bytes, feature0, wants, selected, most}
use Rattle.text.specs.Packing.{total, groups, joined}
use Rattle.refusal.proofs.First.{if_true, if_false, if_zero, or_else_zero, unless_none, unless_fault}
use Rattle.base.proofs.Compare.{le_or_lt}
use Rattle.text.proofs.Selection.{selected_asc, selected_zero}
use Rattle.text.proofs.Sizes.{selected_count}
use Rattle.text.proofs.Packing.{length_flat_bytes, groups_fit, packing}
use Rattle.layout.specs.Layout.{Sheet}
use Rattle.sheet.specs.Check.{verdict, Accepted}
use Rattle.sheet.specs.Meaning.{meaning}
use Rattle.sheet.proofs.Meaning.{meaning_fine}
use Rattle.sweep.specs.Sweep.{start_rule, fresh}
use Rattle.bench.specs.Bench.{Buffers, state, Ending, failing, first_fault, benched}
use Rattle.bench.specs.inner.Loop.{run_from}
use Rattle.bench.specs.Swept.{room, HasRoom, Premises, Swept, Ended, swept, short, long, narrow, many}
use Rattle.bench.proofs.Run.{unless_zero, unless_settled, run_settled}
use Rattle.bench.proofs.Round.{held_after}
use Rattle.bench.proofs.Rounds.{starts_of, length_starts_of}
use Rattle.bench.proofs.Honest.{rounds}
use Rattle.bench.proofs.Ends.{finished, Runs, done, stuck, tight, spent, ends}

-- a writing from index 0 on that has room
front_sets : (d xs : List ℕ) → length xs ≤ length d → sets d 0 xs ≡ xs ++ drop (length xs) d
front_sets d xs h = sets-eq xs d 0 (omega arith) ∙ ap (λ (n : ℕ). xs ++ drop n d) (zero-add (length xs))

-- with the premises nothing is refused
ended_swept : {m : Drive} {rt a : ℕ} {bs : Buffers} {o : Ending} → Premises m rt a bs → Ended m rt a bs o
    → Swept m rt a bs o
ended_swept p (swept s) = s
ended_swept p (short e h) = absurd (omega (arith, p.response_room))
ended_swept {m} {rt} {a} p (long e xs d ys q t u b) = absurd (omega (arith, (all_right (HasRoom a) xs (d ∷ ys) (rw q at p.small)).0))
ended_swept p (narrow e h) = absurd (omega (arith, p.collected_room))
ended_swept p (many e h) = absurd (omega (arith, p.starts_room))

abbrev number : Ending → ℕ
number o = o.reply.refusal.number

-- no number: a successful sweep
ended_zero : {m : Drive} {rt a : ℕ} {bs : Buffers} {o : Ending} → Ended m rt a bs o → number o ≡ 0
    → Swept m rt a bs o
unfolding failing
ended_zero (swept s) z = s
ended_zero (short e h) z = absurd (omega (arith, ap number e))
ended_zero (long e xs d ys q t u b) z = absurd (omega (arith, ap number e))
ended_zero (narrow e h) z = absurd (omega (arith, ap number e))
ended_zero (many e h) z = absurd (omega (arith, ap number e))

module _ {m : Drive} (good : Sound m) (rt a : ℕ) (two : rt < 2) (eight : 8 ≤ a) (bs : Buffers) where
  abbrev wanted : List Desc
  wanted = selected rt 0 m

  abbrev all : List (List Desc)
  all = groups (room a) 65536 wanted

  -- (k - 1) * (C - 8) < 2 * D
  few_rounds : All (HasRoom a) wanted → (length all - 1) * room a < 2 * total wanted
  few_rounds s =
      let e : wanted ≡ feature0 m.profiles ∷ keep (wants rt 0) m.features = selected_zero rt m in
      rw e (packing (room a) 65536 (feature0 m.profiles) (keep (wants rt 0) m.features) (rw e at s) (rw e at (selected_count good rt 0))).1

  -- a run that is done is a successful sweep
  swept_done : joined all ≡ wanted → length (flat bytes wanted) ≤ length bs.collected → length all ≤ length bs.starts
      → Swept m rt a bs (finished m rt a 0 0 0 bs all)
  unfolding finished
  swept_done j c t =
      let ts : List ℕ = starts_of 0 all in
      let n : length ts ≡ length all = length_starts_of 0 all in
      let s : All (HasRoom a) wanted = rw j at (groups_fit (room a) 65536 wanted) in
      let x : sets bs.collected 0 (flat bytes (joined all)) ≡ flat bytes wanted ++ drop (length (flat bytes wanted)) bs.collected =
      ap (λ (r : List Desc). sets bs.collected 0 (flat bytes r)) j ∙ front_sets bs.collected (flat bytes wanted) c in
      let k : 0 < length wanted = omega (arith, ap length (selected_zero rt m)) in
      record {
        asked = ts;
        taken = all;
        fine = refl;
        commands = omega arith;
        noted = front_sets bs.starts ts (omega arith);
        count = omega (arith, ap (λ (r : List Desc). length (flat bytes r)) j);
        exact = x;
        honest = rounds good rt a two eight 65536 0 0 (sets bs.collected 0 (flat bytes (joined all))) (drop (length (flat bytes wanted)) bs.collected) s k (selected_count good rt 0) x;
        once = j;
        ascending = rw j (selected_asc good rt 0);
        last = refl;
        few = rw (zero-add (length all), zero-add (length (flat bytes (joined all))), j, length_flat_bytes wanted) (few_rounds s);
      }

  runs_ended : {o : Ending} → Runs m rt a bs 65536 0 0 0 bs o → Ended m rt a bs o
  runs_ended (done e j c t) = swept (rw e (swept_done j (omega arith) (omega arith)))
  runs_ended (stuck e xs d ys q t u b) = long e xs d ys q t u b
  runs_ended (tight e q g) = narrow e (omega (arith, length_flat_bytes wanted))
  runs_ended (spent e q g) = many e (omega arith)

  -- the sweep of a drive that the text can speak of, with room for a longest response
  pub run_runs : most a ≤ length bs.response → Runs m rt a bs 65536 0 0 0 bs (run_from m (state (fresh rt a) bs))
  unfolding fresh held_after
  run_runs h =
      ends good rt a two eight bs 65536 0 0 0 bs
      (omega (arith, ap length (selected_zero rt m)))
      (selected_count good rt 0)
      (omega (arith, selected_count good rt 0))
      h
      (omega arith)

  pub run_ends : most a ≤ length bs.response → Ended m rt a bs (run_from m (state (fresh rt a) bs))
  run_ends h = runs_ended (run_runs h)

  -- demand 3 of such a drive
  pub run_swept : Premises m rt a bs → Swept m rt a bs (run_from m (state (fresh rt a) bs))
  run_swept p = ended_swept p (run_ends p.response_room)

-- ---- the bench sweep of a sheet

module _ (s : Sheet) (rt a : ℕ) (bs : Buffers) where
  -- what comes of it, and of all rounds
  abbrev rest : Ending
  rest = run_from (meaning s) (state (fresh rt a) bs)

  abbrev result : Ending
  result = benched s rt a bs

  -- any refusal at all, whatever the sheet: both counts 0, all three buffers zero throughout
  pub settled : (number result ≡ 0) ⊎ (result ≡ failing bs result.reply.refusal)
  unfolding benched
  settled = unless_settled (first_fault s rt a (length bs.response)) bs rest (run_settled 65537 (meaning s) bs (state (fresh rt a) bs))

  first_accepted : (first_fault s rt a (length bs.response)).number ≡ 0 → Accepted s
  unfolding first_fault
  first_accepted e = (or_else_zero (verdict s) _ e).0

  first_two : (first_fault s rt a (length bs.response)).number ≡ 0 → rt < 2
  unfolding first_fault start_rule
  first_two e = omega (arith, ltb-false 1 rt (if_zero 20 (ltb 1 rt) _ (or_else_zero _ _ (or_else_zero (verdict s) _ e).1).0).0)

  first_eight : (first_fault s rt a (length bs.response)).number ≡ 0 → 8 ≤ a
  unfolding first_fault start_rule
  first_eight e = ltb-false a 8 (if_zero 21 (ltb a 8) _ (if_zero 20 (ltb 1 rt) _ (or_else_zero _ _ (or_else_zero (verdict s) _ e).1).0).1).0

  pub first_room : Accepted s → rt < 2 → 8 ≤ a → first_fault s rt a (length bs.response) ≡ (refuse 12 if ltb (length bs.response) (most a) else accept)
  unfolding first_fault start_rule ◌if◌else◌ ◌or_else◌ pick_zero
  first_room accepted two eight =
      let h : rt ≤ 1 = omega arith in
      rw (accepted, pick_zero, le-ltb 1 rt h, le-ltb a 8 eight)

  -- an accepted sheet, whatever the room: it succeeds, or is refused 12, 23, 24 or 25
  pub ended : Bytes s.bytes → Accepted s → rt < 2 → 8 ≤ a → Ended (meaning s) rt a bs result
  unfolding benched
  ended b accepted two eight = ⊎_elim
      (λ (h : most a ≤ length bs.response).
      rw (first_room accepted two eight, le-ltb (length bs.response) (most a) h, if_false, unless_none accept (failing bs) rest refl)
      (run_ends (meaning_fine s b accepted).sound rt a two eight bs h))
      (λ (h : length bs.response < most a).
      short (rw (first_room accepted two eight, lt-ltb (length bs.response) (most a) h, if_true) (unless_fault (refuse 12) (failing bs) rest (λ z. omega arith))) h)
      (le_or_lt (most a) (length bs.response))

  -- demand 3
  pub demand3 : Bytes s.bytes → Accepted s → Premises (meaning s) rt a bs → Swept (meaning s) rt a bs result
  demand3 b accepted p = ended_swept p (ended b accepted p.kind p.eight)

  -- whatever succeeds is such a sweep
  pub succeeded : Bytes s.bytes → number result ≡ 0 → Swept (meaning s) rt a bs result
  unfolding benched
  succeeded b e =
      let f : (first_fault s rt a (length bs.response)).number ≡ 0 = unless_zero (first_fault s rt a (length bs.response)) bs rest e in
      ended_zero (ended b (first_accepted f) (first_two f) (first_eight f)) e
