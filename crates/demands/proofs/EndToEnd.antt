-- Two calls, one after the other, over the functions' own contracts: what `respond` leaves in the buffer is read by `read`; the sheet that `import` leaves
-- is answered from by `respond`, and so is what `convert` makes of it; what `sense::make` wrote is read by `sense::read`; and `gcf_respond` leaves what `respond` leaves. Assumes nothing.
use mathlib.Core.Path.{◌≡◌, refl, sym, ap, ◌∙◌}
use mathlib.Core.List.{List}
use Prim.Native.Nat.{ℕ, zero, suc, ◌≤◌}
use native.Mathlib.Decide.{dec_le}
use native.Mathlib.Omega.{arith}
use lib.ListN.{length, take, drop}
use lib.Seq.{take-append_seam}
use borrow.Author.Tests.{eqb-false}
use Rattle.base.specs.Lists.{Bytes}
use Rattle.text.specs.declared.Reading.{Reading}
use Rattle.command.specs.Command.{rt_of, sfn_of, allocation_of, command_fault}
use Rattle.refusal.specs.declared.Refusal.{Refusal}
use Rattle.refusal.proofs.First.{if_zero}
use Rattle.layout.specs.declared.Layout.TheVariants.{Rows}
use Rattle.layout.specs.declared.Layout.{Layout}
use Rattle.layout.specs.Layout.{Sheet, stored}
use Rattle.layout.specs.Contents.{laid}
use Rattle.sheet.specs.Check.{verdict, Accepted}
use Rattle.sheet.specs.Meaning.{meaning}
use Rattle.sheet.proofs.Same.{accepted_room}
use Rattle.lent.specs.Maker as maker
use Rattle.responder.specs.Answer.{due}
use Rattle.responder.specs.contracts.respond as respond
use Rattle.reading.specs.contracts.read as read
use Rattle.capture.specs.Capture.{capture_fault}
use Rattle.import.specs.Import.{sheet_from}
use Rattle.import.proofs.Sheet.{from_bytes}
use Rattle.import.specs.contracts.import as import
use Rattle.convert.specs.contracts.convert as convert
use Rattle.sense.specs.Sense.{heard, kind_of, sensed}
use Rattle.sense.specs.contracts.make as sense_make
use Rattle.sense.specs.contracts.read as sense_read
use Rattle.abi.specs.Left.{layout_of, left, show_made}
use Rattle.abi.specs.contracts.gcf_respond as gcf_respond
use Rattle.base.proofs.Promise.{by, both, all_three}
use Rattle.demands.proofs.Sending.{Answers, demand2}
use Rattle.demands.proofs.Readings.{ReadBack, Reads, reads}
use Rattle.demands.proofs.Importing.{Imports, imports}
use Rattle.demands.proofs.Converting.{Converts, converts}
use Rattle.demands.proofs.Senses.{Makes, makes_sense}
use Rattle.demands.proofs.Named.{saying, Both, AllThree}

-- ---- what an answer without a number says

-- RT 3 is refused
two : (c : List ℕ) → (command_fault c).number ≡ 0 → rt_of c ≤ 2
unfolding command_fault rt_of
two c e =
    let a = if_zero _ _ _ e in
    let b = if_zero _ _ _ a.1 in
    let n : rt_of c ≡ 3 → ⊥ = eqb-false (rt_of c) 3 (if_zero _ _ _ b.1).0 in
    omega (arith, n)

module _ {s : Sheet} {c d : List ℕ} {o : maker.Outcome} (a : Answers s c d o) (z : o.made.refusal.number ≡ 0) where
  -- a number that the answer would give is 0
  none : (n : ℕ) {x : maker.Outcome} → (n ≡ 0 → ⊥) → o ≡ x → x.made.refusal.number ≡ n → ⊥
  none n h e f = h (sym f ∙ sym (ap (λ (y : maker.Outcome). y.made.refusal.number) e) ∙ z)

  is_zero : (n : ℕ) → ((n ≡ 0 → ⊥) → ⊥) → n ≡ 0
  is_zero zero f = refl
  is_zero (suc n) f = absurd (f (λ e. omega arith))

  pub sheet_fine : Accepted s
  unfolding maker.refusing
  sheet_fine = is_zero (verdict s).number (λ h. none (verdict s).number h (a.refuses_sheet h) refl)

  command_fine : (command_fault c).number ≡ 0
  unfolding maker.refusing
  command_fine = is_zero (command_fault c).number (λ h. none (command_fault c).number h (a.refuses_command sheet_fine h) refl)

  room : length (due s c) ≤ length d
  unfolding maker.refusing
  room = elim (dec_le (length (due s c)) (length d)) [
    | yes h ↦ h
    | no h ↦ absurd (none 12 (λ e. omega arith) (a.refuses_room sheet_fine command_fine (omega arith)) refl)
  ]

  -- the bytes due stand at the buffer's front
  pub got : take o.made.count o.buffer ≡ due s c
  unfolding maker.making
  got = rw (a.sends sheet_fine command_fine room) (take-append_seam (due s c) (drop (length (due s c)) d))

  -- so a reading of them, as the answer to that command, gives back what the sheet has
  pub read_back : {rt sfn : ℕ} {received : List ℕ} {r : Reading} → Reads 65534 rt sfn received r → Bytes s.bytes
      → 8 ≤ allocation_of c → rt ≡ rt_of c → sfn ≡ sfn_of c → received ≡ take o.made.count o.buffer
      → ReadBack (meaning s) 65534 (rt_of c) (sfn_of c) (allocation_of c) received r
  read_back {rt} {sfn} {received} {r} f b eight is-rt is-sfn there =
      let g : Reads 65534 (rt_of c) (sfn_of c) received r = rw (is-rt, is-sfn) at f in
      g.own s (allocation_of c) b sheet_fine (two c command_fine) eight (omega arith) (there ∙ got)

-- ---- demand 2 end to end: `respond` is called, then `read` with what the box sent

pub demand2_end_to_end : Both respond.ended (λ M 𝓤 𝓛. respond.clauses 𝓛) read.ended (λ M 𝓤 𝓛. read.clauses 𝓛)
    (λ x o y p. saying x o (λ _ lay s command out r _ _ _ out'.
    saying y p (λ _ rt₂ sfn₂ s₂ r₂ _ _ _.
    r.refusal.number ≡ 0 → Bytes s.now → 8 ≤ allocation_of command.now
    → rt₂ ≡ rt_of command.now → sfn₂.0 ≡ sfn_of command.now → s₂.now ≡ take r.count out'
    → ReadBack (meaning (stored lay s.now)) 65534 (rt_of command.now) (sfn_of command.now) (allocation_of command.now) s₂.now r₂)))
demand2_end_to_end x κs args g o p = both x.𝓤 (λ e f z. read_back (by (Answers _ _ _) (demand2 _ _ _) e) z (by (Reads _ _ _ _) (reads _ _ _ _) f))

-- ---- a captured response end to end: `import` is called, then `respond` with the sheet that it left and a command of RT 0 from 0

replayed : {r d : List ℕ} {s : Sheet} {c e : List ℕ} {o : maker.Outcome} {p : maker.Outcome} → Imports r d o → Answers s c e p → o.made.refusal.number ≡ 0 → Bytes r
    → s ≡ stored Rows (take o.made.count o.buffer) → (command_fault c).number ≡ 0 → rt_of c ≡ 0 → sfn_of c ≡ 0 → length r ≤ allocation_of c → length r ≤ length e
    → p ≡ maker.making r e
replayed {r} {d} {s} {c} {e} i a z b there plain is-rt is-sfn enough fits =
    let x : due s c ≡ r = rw (there, is-rt, is-sfn) ((i.stores b z).back (allocation_of c) enough) in
    a.sends (by Accepted (i.stores b z).accepted there) plain (rw x fits)
    ∙ ap (λ (xs : List ℕ). maker.making xs e) x

pub import_end_to_end : Both import.ended (λ M 𝓤 𝓛. import.clauses 𝓛) respond.ended (λ M 𝓤 𝓛. respond.clauses 𝓛)
    (λ x o y p. saying x o (λ _ response sheet r _ sheet'.
    saying y p (λ _ lay₂ s₂ command₂ out₂ r₂ _ _ _ out₂'.
    r.refusal.number ≡ 0 → Bytes response.now → stored lay₂ s₂.now ≡ stored Rows (take r.count sheet')
    → (command_fault command₂.now).number ≡ 0 → rt_of command₂.now ≡ 0 → sfn_of command₂.now ≡ 0
    → length response.now ≤ allocation_of command₂.now → length response.now ≤ length out₂.now
    → maker.outcome r₂ out₂' ≡ maker.making response.now out₂.now)))
import_end_to_end x κs args g o p = both x.𝓤 (λ e f. replayed (by (Imports _ _) (imports _ _) e) (by (Answers _ _ _) (demand2 _ _ _) f))

-- ---- and with `convert` between them: the sheet that `import` left, laid out as l, answers the same

replayed_laid : {r d : List ℕ} {l : Layout} {s t : Sheet} {f c e : List ℕ} {o q p : maker.Outcome} → Imports r d o → Converts l s f q → Answers t c e p
    → o.made.refusal.number ≡ 0 → q.made.refusal.number ≡ 0 → Bytes r
    → s ≡ stored Rows (take o.made.count o.buffer) → t ≡ stored l (take q.made.count q.buffer)
    → (command_fault c).number ≡ 0 → rt_of c ≡ 0 → sfn_of c ≡ 0 → length r ≤ allocation_of c → length r ≤ length e
    → p ≡ maker.making r e
unfolding maker.refusing
replayed_laid {r} {d} {l} {s} {t} {f} {c} {e} i k a z y b there laid-there plain is-rt is-sfn enough fits =
    let h = i.stores b z in
    let is : s ≡ sheet_from r = there ∙ h.sheet in
    let bs : Bytes s.bytes = by (λ (x : Sheet). Bytes x.bytes) (from_bytes r b (imports_none i z)) is in
    let ok : Accepted s = by Accepted h.accepted there in
    let at : t ≡ laid l s = laid-there ∙ (k.stands bs y).1 in
    let x : due t c ≡ r = rw (at, k.same_meaning bs ok, there, is-rt, is-sfn) (h.back (allocation_of c) enough) in
    a.sends (by Accepted (ap (λ (v : Refusal). v.number) (k.same_verdict bs (accepted_room s bs ok)) ∙ ok) at) plain (rw x fits)
    ∙ ap (λ (xs : List ℕ). maker.making xs e) x
  where
    -- what is not refused was not refused by the capture
    imports_none : {r d : List ℕ} {o : maker.Outcome} → Imports r d o → o.made.refusal.number ≡ 0 → (capture_fault r).number ≡ 0
    imports_none {r} {d} {o} i z = go (capture_fault r).number refl
      where
        go : (n : ℕ) → (capture_fault r).number ≡ n → n ≡ 0
        go zero e = refl
        go (suc n) e = absurd (omega (arith, z, e, ap (λ (x : maker.Outcome). x.made.refusal.number) (i.refuses_capture (λ w. omega arith))))

pub import_convert_end_to_end : AllThree import.ended (λ M 𝓤 𝓛. import.clauses 𝓛) convert.ended (λ M 𝓤 𝓛. convert.clauses 𝓛) respond.ended (λ M 𝓤 𝓛. respond.clauses 𝓛)
    (λ x o y q z p. saying x o (λ _ response sheet r _ sheet'.
    saying y q (λ _ to₂ lay₂ s₂ out₂ r₂ _ _ _ out₂'.
    saying z p (λ _ lay₃ s₃ command₃ out₃ r₃ _ _ _ out₃'.
    r.refusal.number ≡ 0 → r₂.refusal.number ≡ 0 → Bytes response.now
    → stored lay₂ s₂.now ≡ stored Rows (take r.count sheet')
    → stored lay₃ s₃.now ≡ stored to₂ (take r₂.count out₂')
    → (command_fault command₃.now).number ≡ 0 → rt_of command₃.now ≡ 0 → sfn_of command₃.now ≡ 0
    → length response.now ≤ allocation_of command₃.now → length response.now ≤ length out₃.now
    → maker.outcome r₃ out₃' ≡ maker.making response.now out₃.now))))
import_convert_end_to_end x κs args g κs₂ args₂ g₂ o q p =
    all_three x.𝓤 (λ e fg. replayed_laid (by (Imports _ _) (imports _ _) e) (by (Converts _ _ _) (converts _ _ _) fg.0) (by (Answers _ _ _) (demand2 _ _ _) fg.1))

-- ---- sense data end to end: `make` is called, then `read` with the bytes that it wrote

pub sense_end_to_end : Both sense_make.ended (λ M 𝓤 𝓛. sense_make.clauses 𝓛) sense_read.ended (λ M 𝓤 𝓛. sense_read.clauses 𝓛)
    (λ x o y p. saying x o (λ _ number out r _ out'.
    saying y p (λ _ s₂ r₂ _.
    r.refusal.number ≡ 0 → s₂.now ≡ take r.count out' → heard r₂ ≡ kind_of number)))
sense_end_to_end x κs args g o p = both x.𝓤 (λ e f z there. f ∙ ap sensed there ∙ (by (Makes _ _) (makes_sense _ _) e).back z)

-- ---- `gcf_respond` leaves what `respond` answers and leaves, called with the same sheet, command and buffer

pub gcf_respond_same : Both gcf_respond.ended (λ M 𝓤 𝓛. gcf_respond.clauses 𝓛) respond.ended (λ M 𝓤 𝓛. respond.clauses 𝓛)
    (λ x o y p. saying x o (λ _ columns sheet command response told r _ _ _ response' told'.
    saying y p (λ _ lay₂ s₂ command₂ out₂ r₂ _ _ _ out₂'.
    stored lay₂ s₂.now ≡ stored (layout_of columns) sheet.now → command₂.now ≡ command.now → out₂.now ≡ response.now
    → left r response' told' ≡ show_made (maker.outcome r₂ out₂'))))
gcf_respond_same x κs args g o p = both x.𝓤 (λ e f a b c. e ∙ ap show_made (sym (rw (← a, ← b, ← c) f)))
