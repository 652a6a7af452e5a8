-- Request 7: "Supply both conversions, and show that they undo each other on accepted sheets and that every command and every bench sweep gives the same
-- result on either layout. [..] The numbers and their order stay, and both layouts of one sheet get the same; a conversion gives the sheet's numbers, then 42
-- for a short output buffer, which is then unchanged." `converted` is the contract of `convert::convert`; `laid l s` is the sheet s laid out as l, which is
-- defined for every byte string: of one that is refused it is the rearranged bytes. Assumes nothing.
use mathlib.Core.Path.{◌≡◌, refl, sym, ap, ap₂, ◌∙◌}
use mathlib.Core.List.{List}
use Prim.Native.Nat.{ℕ, zero, suc, ◌≤◌, ◌<◌}
use native.Mathlib.Omega.{arith}
use lib.Dec.{ltb}
use lib.ListN.{length, take}
use Rattle.base.specs.Lists.{Bytes}
use Rattle.base.proofs.Promise.{by, all_three}
use Rattle.lent.specs.Maker as maker
use Rattle.lent.proofs.Maker.{makes_fault}
use Rattle.refusal.specs.declared.Refusal.{Refusal}
use Rattle.refusal.specs.First.{refuse, accept, ◌if◌else◌, ◌or_else◌, unless}
use Rattle.refusal.proofs.First.{or_else_fault, unless_fault}
use Rattle.command.specs.Command.{command_fault, rt_of, sfn_of, allocation_of}
use Rattle.text.specs.Drive.{Drive}
use Rattle.text.specs.Response.{most, sent}
use Rattle.layout.specs.declared.Layout.{Layout}
use Rattle.layout.specs.Layout.{Sheet, stored, sheet_size, profiles_at}
use Rattle.layout.specs.Contents.{laid}
use Rattle.layout.specs.Same.{SameSheet}
use Rattle.layout.proofs.Laid.{laid_bytes, laid_same}
use Rattle.sheet.specs.Check.{verdict, Accepted}
use Rattle.sheet.specs.Meaning.{meaning}
use Rattle.sheet.proofs.Same.{verdict_same, meaning_same, accepted_room, laid_verdict, laid_meaning, laid_accepted, laid_undone}
use Rattle.convert.specs.Convert.{converted}
use Rattle.convert.proofs.Converted.{converted_fault, converted_short, converted_made, converted_stands, converted_zero, converted_back}
use Rattle.convert.specs.contracts.convert as convert
use Rattle.responder.specs.Answer.{due, commanded, answered}
use Rattle.responder.specs.Trusting.{trusting_command}
use Rattle.responder.proofs.Trusting.{trusting_commanded}
use Rattle.responder.specs.contracts.respond as respond
use Rattle.bench.specs.Bench.{Buffers, buffers, state, Ending, ending, failing, rounds, first_fault, benched}
use Rattle.bench.specs.contracts.bench as bench
use Rattle.sweep.specs.Sweep.{start_rule, fresh}
use Rattle.demands.proofs.Sending.{Leaves, leaves}
use Rattle.demands.proofs.Named.{saying, AllThree}

-- ---- a conversion

-- Of an outcome o of the sheet s, which is to be laid out as l, and the buffer d: exactly the sheet so laid out, and nothing behind it changes; else the
-- sheet's first refusal with its place, then 42, and the buffer is unchanged. Where it answers 0, what stands in the buffer is as long as s, has its verdict
-- and its meaning, and converted back it is s again.
pub record Converts (l : Layout) (s : Sheet) (d : List ℕ) (o : maker.Outcome) : Type 0 where
  pub exact : o ≡ converted l s d
  pub refuses_sheet : ((verdict s).number ≡ 0 → ⊥) → o ≡ maker.refusing d (verdict s)
  pub refuses_room : Bytes s.bytes → Accepted s → length d < sheet_size s → o ≡ maker.refusing d (refuse 42)
  pub writes : Bytes s.bytes → Accepted s → sheet_size s ≤ length d → o ≡ maker.making (laid l s).bytes d
  pub stands : Bytes s.bytes → o.made.refusal.number ≡ 0 → (o.made.count ≡ sheet_size s) × (stored l (take o.made.count o.buffer) ≡ laid l s)
  pub accepts : Bytes s.bytes → o.made.refusal.number ≡ 0 → Accepted s
  pub undone : Bytes s.bytes → Accepted s → (laid s.layout (laid l s) ≡ s) × ((e : List ℕ) → sheet_size s ≤ length e → converted s.layout (laid l s) e ≡ maker.making s.bytes e)
  pub same_verdict : Bytes s.bytes → profiles_at s ≤ sheet_size s → verdict (laid l s) ≡ verdict s
  pub same_meaning : Bytes s.bytes → Accepted s → meaning (laid l s) ≡ meaning s
  pub left : Leaves (laid l s).bytes d o

laid_stored : (l : Layout) (s : Sheet) {b : List ℕ} → b ≡ (laid l s).bytes → stored l b ≡ laid l s
unfolding laid
laid_stored l s e = ap (stored l) e

pub converts : (l : Layout) (s : Sheet) (d : List ℕ) → Converts l s d (converted l s d)
unfolding converted
converts l s d = record {
  exact = refl;
  refuses_sheet = converted_fault l s d;
  refuses_room = converted_short l s d;
  writes = converted_made l s d;
  stands = λ b e. let t = converted_stands l s d b e in (t.0, laid_stored l s (ap (λ (k : ℕ). take k (converted l s d).buffer) t.0 ∙ t.1));
  accepts = λ b e. (converted_zero l s d b e).0;
  undone = λ b k. (laid_undone l s b k, λ e h. converted_back l s e b k h);
  same_verdict = laid_verdict l s;
  same_meaning = laid_meaning l s;
  left = leaves (verdict s) 41 (laid l s).bytes d;
}

-- ---- sheets that say the same, each in its layout, are answered alike: refused ones by the same number and place

module _ {s t : Sheet} (e : SameSheet s t) (b : Bytes s.bytes) where
  pub same_answered : (c d : List ℕ) → answered s c d ≡ answered t c d
  unfolding answered
  same_answered c d = go (verdict s).number refl
    where
      go : (n : ℕ) → (verdict s).number ≡ n → answered s c d ≡ answered t c d
      go zero z = ap₂ (λ (v : Refusal) (m : Drive). maker.makes (v or_else command_fault c) 12 (sent (rt_of c) (sfn_of c) (allocation_of c) m) d) (verdict_same e) (meaning_same e b z)
      go (suc n) z =
          let h : (verdict s).number ≡ 0 → ⊥ = λ y. omega arith in
          let k : (verdict t).number ≡ 0 → ⊥ = λ y. omega (arith, ap (λ (v : Refusal). v.number) (verdict_same e)) in
          ap (λ (v : Refusal). maker.makes v 12 (due s c) d) (or_else_fault (verdict s) (command_fault c) h) ∙ makes_fault (verdict s) 12 (due s c) d h
          ∙ ap (maker.refusing d) (verdict_same e)
          ∙ sym (ap (λ (v : Refusal). maker.makes v 12 (due t c) d) (or_else_fault (verdict t) (command_fault c) k) ∙ makes_fault (verdict t) 12 (due t c) d k)

  pub same_benched : (rt a : ℕ) (bs : Buffers) → benched s rt a bs ≡ benched t rt a bs
  unfolding benched first_fault
  same_benched rt a bs = go (verdict s).number refl
    where
      run : Sheet → Ending
      run x = rounds 65537 (meaning x) bs (state (fresh rt a) bs)

      go : (n : ℕ) → (verdict s).number ≡ n → benched s rt a bs ≡ benched t rt a bs
      go zero z = ap₂ (λ (v : Refusal) (m : Drive). unless (v or_else start_rule rt a or_else refuse 12 if ltb (length bs.response) (most a) else accept) (failing bs) (rounds 65537 m bs (state (fresh rt a) bs))) (verdict_same e) (meaning_same e b z)
      go (suc n) z =
          let h : (verdict s).number ≡ 0 → ⊥ = λ y. omega arith in
          let k : (verdict t).number ≡ 0 → ⊥ = λ y. omega (arith, ap (λ (v : Refusal). v.number) (verdict_same e)) in
          ap (λ (v : Refusal). unless v (failing bs) (run s)) (or_else_fault (verdict s) _ h) ∙ unless_fault (verdict s) (failing bs) (run s) h
          ∙ ap (failing bs) (verdict_same e)
          ∙ sym (ap (λ (v : Refusal). unless v (failing bs) (run t)) (or_else_fault (verdict t) _ k) ∙ unless_fault (verdict t) (failing bs) (run t) k)

-- ---- so a sheet and its conversion are: every command and every bench sweep, of every byte string that is long enough for its counts

module _ (l : Layout) (s : Sheet) (b : Bytes s.bytes) (room : profiles_at s ≤ sheet_size s) where
  pub either_answered : (c d : List ℕ) → answered (laid l s) c d ≡ answered s c d
  either_answered c d = sym (same_answered (laid_same l s b room) b c d)

  pub either_benched : (rt a : ℕ) (bs : Buffers) → benched (laid l s) rt a bs ≡ benched s rt a bs
  either_benched rt a bs = sym (same_benched (laid_same l s b room) b rt a bs)

-- and a box that does not check its sheet, where the sheet is accepted
pub either_trusted : (l : Layout) (s : Sheet) → Bytes s.bytes → Accepted s → (c d : List ℕ) → trusting_command (laid l s) c d ≡ trusting_command s c d
unfolding commanded
either_trusted l s b k c d =
    trusting_commanded (laid l s) (laid_bytes l s b (accepted_room s b k)) (laid_accepted l s b k) c d
    ∙ ap (λ (m : Drive). maker.makes (command_fault c) 12 (sent (rt_of c) (sfn_of c) (allocation_of c) m) d) (laid_meaning l s b k)
    ∙ sym (trusting_commanded s b k c d)

-- ---- three calls: `convert` with a sheet, then `respond`, or `bench`, with what it left and with the sheet itself

module _ {l : Layout} {s t u : Sheet} {d : List ℕ} {o : maker.Outcome} (c : Converts l s d o) (z : o.made.refusal.number ≡ 0) (b : Bytes s.bytes)
    (there : t ≡ stored l (take o.made.count o.buffer)) (first : u ≡ s) where
  is_laid : t ≡ laid l s
  is_laid = there ∙ (c.stands b z).1

  room : profiles_at s ≤ sheet_size s
  room = accepted_room s b (c.accepts b z)

  alike : (a e : List ℕ) → answered t a e ≡ answered u a e
  alike a e = ap (λ (x : Sheet). answered x a e) is_laid ∙ either_answered l s b room a e ∙ ap (λ (x : Sheet). answered x a e) (sym first)

  alike_swept : (rt a : ℕ) (bs : Buffers) → benched t rt a bs ≡ benched u rt a bs
  alike_swept rt a bs = ap (λ (x : Sheet). benched x rt a bs) is_laid ∙ either_benched l s b room rt a bs ∙ ap (λ (x : Sheet). benched x rt a bs) (sym first)

pub respond_either : AllThree convert.ended (λ M 𝓤 𝓛. convert.clauses 𝓛) respond.ended (λ M 𝓤 𝓛. respond.clauses 𝓛) respond.ended (λ M 𝓤 𝓛. respond.clauses 𝓛)
    (λ x o y p z q. saying x o (λ _ to lay s out r _ _ _ out'.
    saying y p (λ _ lay₂ s₂ command₂ out₂ r₂ _ _ _ out₂'.
    saying z q (λ _ lay₃ s₃ command₃ out₃ r₃ _ _ _ out₃'.
    r.refusal.number ≡ 0 → Bytes s.now
    → stored lay₂ s₂.now ≡ stored to (take r.count out')
    → stored lay₃ s₃.now ≡ stored lay s.now
    → command₃.now ≡ command₂.now → out₃.now ≡ out₂.now
    → maker.outcome r₂ out₂' ≡ maker.outcome r₃ out₃'))))
respond_either x κs args g κs₂ args₂ g₂ o p q =
    all_three x.𝓤 (λ e fg z b there first is_command is-buffer.
    fg.0 ∙ alike (by (Converts _ _ _) (converts _ _ _) e) z b there first args.1.1.0.now args.1.1.1.0.now ∙ sym (rw (is_command, is-buffer) at fg.1))

pub bench_either : AllThree convert.ended (λ M 𝓤 𝓛. convert.clauses 𝓛) bench.ended (λ M 𝓤 𝓛. bench.clauses 𝓛) bench.ended (λ M 𝓤 𝓛. bench.clauses 𝓛)
    (λ x o y p z q. saying x o (λ _ to lay s out r _ _ _ out'.
    saying y p (λ _ lay₂ s₂ rt₂ a₂ response₂ collected₂ starts₂ r₂ _ _ _ _ response₂' collected₂' starts₂'.
    saying z q (λ _ lay₃ s₃ rt₃ a₃ response₃ collected₃ starts₃ r₃ _ _ _ _ response₃' collected₃' starts₃'.
    r.refusal.number ≡ 0 → Bytes s.now
    → stored lay₂ s₂.now ≡ stored to (take r.count out')
    → stored lay₃ s₃.now ≡ stored lay s.now
    → rt₃ ≡ rt₂ → a₃ ≡ a₂ → buffers response₃.now collected₃.now starts₃.now
    ≡ buffers response₂.now collected₂.now starts₂.now
    → ending r₂ (buffers response₂' collected₂' starts₂')
    ≡ ending r₃ (buffers response₃' collected₃' starts₃')))))
bench_either x κs args g κs₂ args₂ g₂ o p q =
    all_three x.𝓤 (λ e fg z b there first is-rt is-a are-lent.
    fg.0 ∙ alike_swept (by (Converts _ _ _) (converts _ _ _) e) z b there first args.1.1.0 args.1.1.1.0 (buffers args.1.1.1.1.0.now args.1.1.1.1.1.0.now args.1.1.1.1.1.1.0.now) ∙ sym (rw (is-rt, is-a, are-lent) at fg.1))
