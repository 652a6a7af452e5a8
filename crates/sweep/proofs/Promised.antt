-- What a response does to a sweep's record, in the paper's own numbers: which refusal comes first, which of them end the sweep, which change nothing, and
-- what an accepted response leaves. It stands in this crate so that code, definition and laws that are changed together are refused by it. Assumes nothing.
use mathlib.Core.Path.{◌≡◌, refl, sym, ap, ◌∙◌}
use mathlib.Core.Logic.{◌⊎◌, inl, inr}
use mathlib.Core.Bool.{Bool, true, false, ◌&&◌, true≢false}
use mathlib.Core.List.{List, ◌++◌}
use Prim.Native.Nat.{ℕ, ◌+◌, ◌≤◌, ◌<◌, min}
use native.Mathlib.Omega.{arith}
use lib.ListN.{length, take, drop}
use borrow.Author.Tests.{ltb-true, ltb-false, lt-ltb, eqb-true, eqb-false, not-true, not-false}
use Rattle.base.specs.Lists.{flat}
use Rattle.fields.specs.Field.{field}
use Rattle.refusal.specs.declared.Refusal.{Refusal}
use Rattle.refusal.proofs.Order.{Rule, Given, None, rule_if, rule_two, rule_first, rule_last, given_first}
use Rattle.text.specs.Drive.{Desc}
use Rattle.text.specs.Response.{bytes}
use Rattle.text.specs.Reading.{stated_length, stated_profile, read_fault, last_number}
use Rattle.sweep.specs.declared.Sweep.{Sweep}
use Rattle.sweep.specs.declared.Step.{Step}
use Rattle.sweep.specs.Sweep.{step, start_rule, fresh, started, cut, wholes_of, changed, take_fault, ended_now, ends_sweep, advanced, Turn, turn, taking, stepped}
use Rattle.sweep.proofs.Numbers.{start_fault, start_fresh, start_refusal, ends_none_whole, ends_changed, ends_not, left_ended, left_same}
use Rattle.sweep.proofs.Cases.{started_cases, stepped_fault, stepped_none, step_refusal}

-- ---- which refusal comes first

-- the response is cut: it has not as many bytes as its Data Length, bytes 0 to 3, and 4 more
abbrev pub Cut : List ℕ → Type 0
Cut s = length s ≡ field 4 s 0 + 4 → ⊥

-- the number k that the record w gives for the response s, with room for so many bytes, where ds are its whole descriptors
abbrev pub Order : (w : Sweep) (s : List ℕ) (room : ℕ) (ds : List Desc) → ℕ → Type 0
Order w s room ds =
    Rule 21 (w.rt ≤ 1)
    (Rule 22 (8 ≤ w.allocation)
    (Rule 26 ((w.ended ≡ false) × (w.commands ≤ 65535))
    (Given (read_fault (min w.allocation 65534) w.rt w.next.0 s).number
    (Rule 28 (Cut s → min w.allocation 65534 ≤ length s)
    (Rule 45 (0 < w.commands → field 2 s 6 ≡ w.profile.0)
    (Rule 23 (Cut s → 0 < length ds)
    (Rule 27 (Cut s → last_number ds ≡ 65535 → ⊥)
    (Rule 24 (w.collected + length (flat bytes ds) ≤ room)
    None))))))))

-- of the step t that starts a sweep of RT rt with allocation length a
pub record Begins (rt a : ℕ) (t : Step) : Type 0 where
  -- 21 before 22
  pub order : Rule 21 (rt ≤ 1) (Rule 22 (8 ≤ a) None) t.refusal.number
  -- a refused start has ended, with all numbers 0
  pub refused : (t.refusal.number ≡ 0 → ⊥) → (t.sweep.ended ≡ true) × (t.sweep.rt ≡ 0) × (t.sweep.allocation ≡ 0)
  -- any other is open, for this RT and allocation length
  pub goes : t.refusal.number ≡ 0 → (t.sweep.ended ≡ false) × (t.sweep.rt ≡ rt) × (t.sweep.allocation ≡ a)
  -- nothing has come yet
  pub next : t.sweep.next.0 ≡ 0
  pub commands : t.sweep.commands ≡ 0
  pub collected : t.sweep.collected ≡ 0
  pub profile : t.sweep.profile.0 ≡ 0

-- ---- what each number does

-- v is w with nothing changed but the mark that it has ended
pub record Ended (w v : Sweep) : Type 0 where
  pub ended : v.ended ≡ true
  pub rt : v.rt ≡ w.rt
  pub allocation : v.allocation ≡ w.allocation
  pub next : v.next ≡ w.next
  pub commands : v.commands ≡ w.commands
  pub collected : v.collected ≡ w.collected
  pub profile : v.profile ≡ w.profile

-- v is w moved on by the response s with the whole descriptors ds
pub record Moved (w : Sweep) (s : List ℕ) (ds : List Desc) (v : Sweep) : Type 0 where
  pub rt : v.rt ≡ w.rt
  pub allocation : v.allocation ≡ w.allocation
  pub commands : v.commands ≡ w.commands + 1
  pub collected : v.collected ≡ w.collected + length (flat bytes ds)
  -- a complete response ends it, and the next start stays
  pub complete : length s ≡ field 4 s 0 + 4 → (v.ended ≡ true) × (v.next ≡ w.next)
  -- a cut one sets the next start to the last number plus 1
  pub goes_on : Cut s → (v.ended ≡ false) × (v.next.0 ≡ last_number ds + 1)

-- of the turn t that the record w makes with the response s and the collecting buffer out
pub record Outright (w : Sweep) (s out : List ℕ) (t : Turn) : Type 0 where
  pub order : Order w s (length out) (wholes_of w s) t.step.refusal.number
  -- 23 and 45 end the sweep
  pub ends : (t.step.refusal.number ≡ 23) ⊎ (t.step.refusal.number ≡ 45) → Ended w t.step.sweep × (t.buffer ≡ out)
  -- every other refusal changes nothing
  pub stays : (t.step.refusal.number ≡ 0 → ⊥) → (t.step.refusal.number ≡ 23 → ⊥) → (t.step.refusal.number ≡ 45 → ⊥) → (t.step.sweep ≡ w) × (t.buffer ≡ out)
  -- an accepted response moves the record on, and its whole descriptors stand behind those collected
  pub moves : t.step.refusal.number ≡ 0 → Moved w s (wholes_of w s) t.step.sweep
      × (t.buffer ≡ take w.collected out ++ flat bytes (wholes_of w s) ++ drop (w.collected + length (flat bytes (wholes_of w s))) out)

-- ---- the definition has all of it

module _ (s : List ℕ) where
  cut_true : cut s ≡ true → Cut s
  unfolding cut stated_length
  cut_true e = eqb-false _ _ (not-true _ e)

  cut_false : cut s ≡ false → length s ≡ field 4 s 0 + 4
  unfolding cut stated_length
  cut_false e = eqb-true _ _ (not-false _ e)

  true_cut : Cut s → cut s ≡ true
  true_cut h = go (cut s) refl
    where
      go : (b : Bool) → cut s ≡ b → cut s ≡ true
      go true e = e
      go false e = absurd (h (cut_false e))

  false_cut : length s ≡ field 4 s 0 + 4 → cut s ≡ false
  false_cut h = go (cut s) refl
    where
      go : (b : Bool) → cut s ≡ b → cut s ≡ false
      go true e = absurd (cut_true e h)
      go false e = e

  -- a test of a cut response
  cut_and : (b : Bool) → (cut s && b) ≡ false → Cut s → b ≡ false
  cut_and b e h = rw (true_cut h) at e

  both : (a b : Bool) → (a && b) ≡ true → (a ≡ true) × (b ≡ true)
  both true b e = (refl, e)
  both false b e = absurd (true≢false (sym e))

module _ (w : Sweep) (s : List ℕ) (room : ℕ) where
  order : Order w s room (wholes_of w s) (take_fault w s room).number
  unfolding take_fault start_rule changed stated_profile
  order =
      rule_first 20 _ _ _ (λ e. ltb-false 1 w.rt e) (λ e h. absurd (omega (arith, ltb-true 1 w.rt e, h)))
      (rule_last 21 _ _ (λ e. ltb-false w.allocation 8 e) (λ e h. absurd (omega (arith, ltb-true w.allocation 8 e, h)))
      (rule_two 26 _ _ _ (λ e f. (e, ltb-false 65535 w.commands f)) (λ e h. true≢false (sym e ∙ h.0)) (λ e h. absurd (omega (arith, ltb-true 65535 w.commands e, h.1)))
      (given_first _ _
      (rule_if 28 _ _
      (λ e c. ltb-false (length s) (min w.allocation 65534) (cut_and s _ e c))
      (λ e h.
      let x = both s _ _ e in
      absurd (omega (arith, ltb-true (length s) (min w.allocation 65534) x.1, h (cut_true s x.0))))
      (rule_if 45 _ _
      (λ e c. eqb-true (field 2 s 6) w.profile.0 (not-false _ (rw (lt-ltb 0 w.commands c) at e)))
      (λ e h.
      let x = both s _ _ e in
      eqb-false (field 2 s 6) w.profile.0 (not-true _ x.1) (h (ltb-true 0 w.commands x.0)))
      (rule_if 23 _ _
      (λ e c. let n : length (wholes_of w s) ≡ 0 → ⊥ = eqb-false _ _ (cut_and s _ e c) in omega arith)
      (λ e h.
      let x = both s _ _ e in
      absurd (omega (arith, eqb-true (length (wholes_of w s)) 0 x.1, h (cut_true s x.0))))
      (rule_if 27 _ _
      (λ e c. eqb-false _ _ (cut_and s _ e c))
      (λ e h. let x = both s _ _ e in h (cut_true s x.0) (eqb-true _ _ x.1))
      (rule_if 24 _ _
      (λ e. ltb-false room (w.collected + length (flat bytes (wholes_of w s))) e)
      (λ e h. absurd (omega (arith, ltb-true room (w.collected + length (flat bytes (wholes_of w s))) e, h)))
      refl))))))))

ended_now_law : (w : Sweep) → Ended w (ended_now w)
unfolding ended_now
ended_now_law w = record { ended = refl; rt = refl; allocation = refl; next = refl; commands = refl; collected = refl; profile = refl }

module _ (w : Sweep) (s out : List ℕ) where
  abbrev fault : Refusal
  fault = take_fault w s (length out)

  number_is : (stepped w s out).step.refusal.number ≡ fault.number
  number_is = ap (λ (r : Refusal). r.number) (step_refusal w s out)

  taking_moves : Moved w s (wholes_of w s) (taking w s (wholes_of w s) out).step.sweep
  unfolding taking advanced
  taking_moves = record {
    rt = refl;
    allocation = refl;
    commands = refl;
    collected = refl;
    complete = λ e. rw (false_cut s e, advanced) (refl, refl);
    goes_on = λ c. rw (true_cut s c, advanced) (refl, refl);
  }

  refused_ends : (b : Bool) → ends_sweep fault ≡ b → (fault.number ≡ 0 → ⊥) → b ≡ true → Ended w (stepped w s out).step.sweep × ((stepped w s out).buffer ≡ out)
  refused_ends b e h t =
      let q : stepped w s out ≡ turn (step fault (ended_now w)) out = stepped_fault w s out h ∙ ap (λ (x : Step). turn x out) (sym (left_ended fault w (ends_sweep fault) refl (e ∙ t))) in
      rw q (ended_now_law w, refl)

  pub outright : Outright w s out (stepped w s out)
  unfolding taking
  outright = record {
    order = rw number_is (order w s (length out));
    ends = go;
    stays = λ h g k.
        let q : stepped w s out ≡ turn (step fault w) out =
        stepped_fault w s out (λ z. h (number_is ∙ z))
        ∙ ap (λ (x : Step). turn x out) (sym (left_same fault w (ends_sweep fault) refl (sym (ends_not fault (λ z. g (number_is ∙ z)) (λ z. k (number_is ∙ z)))))) in
        rw q (refl, refl);
    moves = λ h. rw (stepped_none w s out (sym number_is ∙ h)) (taking_moves, refl);
  }
    where
      go : ((stepped w s out).step.refusal.number ≡ 23) ⊎ ((stepped w s out).step.refusal.number ≡ 45) → Ended w (stepped w s out).step.sweep × ((stepped w s out).buffer ≡ out)
      go (inl e) = refused_ends true (sym (ends_none_whole fault (sym number_is ∙ e))) (λ z. absurd (omega (arith, z, number_is, e))) refl
      go (inr e) = refused_ends true (sym (ends_changed fault (sym number_is ∙ e))) (λ z. absurd (omega (arith, z, number_is, e))) refl

-- ---- starting

module _ (rt a : ℕ) where
  start_order : Rule 21 (rt ≤ 1) (Rule 22 (8 ≤ a) None) (start_rule rt a).number
  unfolding start_rule
  start_order =
      rule_if 21 _ _ (λ e. ltb-false 1 rt e) (λ e h. absurd (omega (arith, ltb-true 1 rt e, h)))
      (rule_if 22 _ _ (λ e. ltb-false a 8 e) (λ e h. absurd (omega (arith, ltb-true a 8 e, h))) refl)

  start_number : (started rt a).refusal.number ≡ (start_rule rt a).number
  start_number = ap (λ (r : Refusal). r.number) (start_refusal rt a)

  pub begins : Begins rt a (started rt a)
  unfolding ended_now fresh
  begins = record {
    order = rw start_number start_order;
    refused = λ h. rw (← start_fault rt a (start_rule rt a) refl (λ z. h (start_number ∙ z))) (refl, refl, refl);
    goes = λ e. rw (← start_fresh rt a (start_rule rt a) refl (sym start_number ∙ e)) (refl, refl, refl);
    next = started_cases rt a (λ w. w.next.0 ≡ 0) refl refl;
    commands = started_cases rt a (λ w. w.commands ≡ 0) refl refl;
    collected = started_cases rt a (λ w. w.collected ≡ 0) refl refl;
    profile = started_cases rt a (λ w. w.profile.0 ≡ 0) refl refl;
  }
