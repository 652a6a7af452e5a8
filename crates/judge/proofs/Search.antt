-- The search for a mistake whose box sends a response, turn by turn, and what is said then. Assumes nothing.
use mathlib.Core.Path.{◌≡◌, refl, sym, ap, ap₂, ◌∙◌}
use mathlib.Core.Bool.{Bool, true, false}
use mathlib.Core.List.{List}
use Prim.Native.Nat.{ℕ, ◌+◌, ◌≤◌, ◌<◌}
use lib.ListN.{length, get_or}
use Rattle.base.proofs.Pick.{left, pick_found, pick_next, pick_none}
use Rattle.text.specs.Drive.{Drive}
use Rattle.judge.specs.Boxes.{mistakes, sent_with}
use Rattle.text.specs.Response.{most, sent}
use Rattle.refusal.specs.declared.Refusal.{Refusal}
use Rattle.refusal.specs.First.{refuse, accept, unless}
use Rattle.refusal.proofs.First.{if_true, if_false, unless_none, unless_fault, call_none, call_fault}
use Rattle.command.specs.declared.Command.{Command}
use Rattle.command.specs.Command.{command_fault, command_of, rt_of, sfn_of, allocation_of}
use Rattle.layout.specs.Layout.{Sheet}
use Rattle.sheet.specs.Check.{verdict}
use Rattle.sheet.specs.Meaning.{meaning}
use borrow.Author.Tests.{lt-ltb, le-ltb}
use native.Mathlib.Omega.{arith}
use Rattle.judge.specs.Verdict.{compared, is_right, explained, because, Judgement, judgement, unasked, alone, room_fault, requested, judged}
use Rattle.judge.specs.declared.Mistake.{Mistake}
use Rattle.judge.specs.declared.Mistake.TheVariants.{OnlyAbove, Unexplained}
use Rattle.judge.specs.declared.Verdict.{Verdict}
use Rattle.judge.specs.declared.Verdict.TheVariants.{Wrong, Refused}

-- whether the box of a mistake sends the bytes x
abbrev pub sends : (rt sfn a : ℕ) → Drive → List ℕ → Mistake → Bool
sends rt sfn a m x w = is_right (compared (sent_with w rt sfn a m) x)

-- what is left of the search at index i
abbrev pub left_at : (rt sfn a : ℕ) → Drive → List ℕ → ℕ → Mistake
left_at rt sfn a m x i = left (sends rt sfn a m x) (λ w. w) Unexplained mistakes i

module _ (rt sfn a : ℕ) (m : Drive) (x : List ℕ) where
  pub explained_start : explained rt sfn a m x ≡ left_at rt sfn a m x 0
  unfolding explained
  explained_start = refl

  module _ (i : ℕ) (e : explained rt sfn a m x ≡ left_at rt sfn a m x i) where
    module _ (w : Mistake) (b : Bool) (h : i < 7) (q : w ≡ get_or mistakes i OnlyAbove) (y : b ≡ sends rt sfn a m x w) where
      pub explained_here : b ≡ true → w ≡ explained rt sfn a m x
      unfolding explained mistakes
      explained_here t = pick_found (sends rt sfn a m x) (λ w. w) Unexplained mistakes i OnlyAbove w w e h q (sym y ∙ t) refl

      pub explained_next : b ≡ false → explained rt sfn a m x ≡ left_at rt sfn a m x (i + 1)
      unfolding explained mistakes
      explained_next t = pick_next (sends rt sfn a m x) (λ w. w) Unexplained mistakes i OnlyAbove w e h q (sym y ∙ t)

    pub explained_none : 7 ≤ i → Unexplained ≡ explained rt sfn a m x
    unfolding explained mistakes
    explained_none h = pick_none (sends rt sfn a m x) (λ w. w) Unexplained mistakes i e h

-- ---- what is said: xs, which are due, were compared with x, and v came of it

module _ (rt sfn a : ℕ) (m : Drive) (x d xs : List ℕ) (front : xs ≡ sent rt sfn a m) (v : Verdict) (c : v ≡ compared xs x) (e : List ℕ) (h : e ≡ alone (sent rt sfn a m) (length d)) where
  pub requested_as : (u w : Verdict) → v ≡ u → because u (explained rt sfn a m x) ≡ w → judgement w e ≡ requested rt sfn a m x d
  unfolding requested
  requested_as u w q b =
      ap₂ (λ (y : Verdict) (l : List ℕ). judgement y l)
      (sym b ∙ ap (λ (y : Verdict). because y (explained rt sfn a m x)) (sym (ap (λ (l : List ℕ). compared l x) (sym front) ∙ sym c ∙ q)))
      h

  pub requested_wrong : (k : ℕ) (o w : Mistake) → v ≡ Wrong k o → w ≡ explained rt sfn a m x → judgement (Wrong k w) e ≡ requested rt sfn a m x d
  unfolding because
  requested_wrong k o w q b = requested_as (Wrong k o) (Wrong k w) q (ap (λ (y : Mistake). Wrong k y) (sym b))

-- ---- the verdict: the sheet's refusal, the command's, 12, or what is said of a request

module _ (s : Sheet) (c x d : List ℕ) where
  abbrev asked : Judgement
  asked = requested (rt_of c) (sfn_of c) (allocation_of c) (meaning s) x d

  abbrev roomed : Judgement
  roomed = unless (room_fault (allocation_of c) d) (λ (r : Refusal). judgement (Refused r) d) asked

  abbrev commanded : Judgement
  commanded = unless (command_fault c) (λ (r : Refusal). judgement (unasked r x) d) roomed

  pub judged_sheet : (r : Refusal) → r ≡ verdict s → (r.number ≡ 0 → ⊥) → judgement (Refused r) d ≡ judged s c x d
  unfolding judged
  judged_sheet r e h = ap (λ (q : Refusal). judgement (Refused q) d) e ∙ sym (unless_fault (verdict s) (λ (r : Refusal). judgement (Refused r) d) commanded (call_fault r (verdict s) e h))

  module _ (v : Refusal) (ok : v ≡ verdict s) (none : v.number ≡ 0) where
    passed : commanded ≡ judged s c x d
    unfolding judged
    passed = sym (unless_none (verdict s) (λ (r : Refusal). judgement (Refused r) d) commanded (call_none v (verdict s) ok none))

    pub judged_command : (r : Refusal) (w : Verdict) → r ≡ command_fault c → (r.number ≡ 0 → ⊥) → w ≡ unasked r x → judgement w d ≡ judged s c x d
    judged_command r w e h q =
        ap (λ (w : Verdict). judgement w d) (q ∙ ap (λ (r : Refusal). unasked r x) e)
        ∙ sym (unless_fault (command_fault c) (λ (r : Refusal). judgement (unasked r x) d) roomed (call_fault r (command_fault c) e h)) ∙ passed

    module _ (r : Refusal) (fine : r ≡ command_fault c) (nought : r.number ≡ 0) (k : Command) (read : k ≡ command_of c) (n : ℕ) (enough : n ≡ most k.allocation) where
      read_passed : roomed ≡ judged s c x d
      read_passed = sym (unless_none (command_fault c) (λ (r : Refusal). judgement (unasked r x) d) roomed (call_none r (command_fault c) fine nought)) ∙ passed

      most_is : n ≡ most (allocation_of c)
      unfolding command_of
      most_is = enough ∙ ap (λ (q : Command). most q.allocation) read

      room_short : length d < n → room_fault (allocation_of c) d ≡ refuse 12
      unfolding room_fault
      room_short h = rw (lt-ltb (length d) (most (allocation_of c)) (omega (arith, h, most_is)), if_true)

      room_there : n ≤ length d → room_fault (allocation_of c) d ≡ accept
      unfolding room_fault
      room_there h = rw (le-ltb (length d) (most (allocation_of c)) (omega (arith, h, most_is)), if_false)

      asked_is : requested k.rt k.sfn.0 k.allocation (meaning s) x d ≡ asked
      unfolding command_of
      asked_is = ap (λ (q : Command). requested q.rt q.sfn.0 q.allocation (meaning s) x d) read

      pub judged_room : length d < n → judgement (Refused (refuse 12)) d ≡ judged s c x d
      judged_room h =
          sym (ap (λ (q : Refusal). unless q (λ (r : Refusal). judgement (Refused r) d) asked) (room_short h) ∙ unless_fault (refuse 12) (λ (r : Refusal). judgement (Refused r) d) asked (λ z. omega arith)) ∙ read_passed

      pub judged_asked : n ≤ length d → (j : Judgement) → j ≡ requested k.rt k.sfn.0 k.allocation (meaning s) x d → j ≡ judged s c x d
      judged_asked h j q =
          q ∙ asked_is
          ∙ sym (ap (λ (q : Refusal). unless q (λ (r : Refusal). judgement (Refused r) d) asked) (room_there h) ∙ unless_none accept (λ (r : Refusal). judgement (Refused r) d) asked refl) ∙ read_passed
