-- Which number a bench sweep gives first, and what a refusal leaves, in the paper's own numbers. It stands in this crate so that code, definition and laws
-- that are changed together are refused by it. Assumes nothing.
use mathlib.Core.Path.{◌≡◌, refl, sym, ap, subst, ◌∙◌}
use mathlib.Core.Logic.{◌⊎◌, inl, inr, ⊎_elim}
use Prim.Native.Nat.{ℕ, zero, suc, ◌+◌, ◌-◌, ◌≤◌, ◌<◌, min}
use native.Mathlib.Omega.{arith}
use lib.Dec.{ltb}
use lib.ListN.{length, take, replicate}
use borrow.Author.Tests.{lt-ltb, le-ltb}
use Rattle.base.specs.Lists.{flat, Bytes}
use Rattle.base.proofs.Compare.{le_or_lt}
use Rattle.refusal.specs.declared.Refusal.{Refusal}
use Rattle.refusal.specs.First.{refuse, accept, ◌if◌else◌, ◌or_else◌}
use Rattle.refusal.proofs.First.{or_else_none, or_else_fault, unless_none, unless_fault, if_true, if_false}
use Rattle.refusal.proofs.Order.{Rule, broken, kept, Given}
use Rattle.text.specs.Drive.{Drive}
use Rattle.text.specs.Response.{bytes, selected}
use Rattle.text.specs.Packing.{groups, joined}
use Rattle.layout.specs.Layout.{Sheet}
use Rattle.sheet.specs.Check.{verdict, Accepted}
use Rattle.sheet.specs.Meaning.{meaning}
use Rattle.sheet.proofs.Meaning.{meaning_fine}
use Rattle.sweep.specs.Sweep.{start_rule, fresh}
use Rattle.bench.specs.Bench.{Buffers, state, Ending, zeros, failing, first_fault, benched}
use Rattle.bench.specs.inner.Loop.{run_from}
use Rattle.bench.proofs.Round.{plan}
use Rattle.bench.proofs.Ends.{begun, finished, Runs, done, stuck, tight, spent}
use Rattle.bench.proofs.Demand.{run_runs, settled, first_room}

abbrev number : Ending → ℕ
number o = o.reply.refusal.number

-- ---- what is promised of the bench sweep o of the sheet s into the buffers b

-- the bytes of the rounds that the list of starts has room for, where each round takes as many whole descriptors as C - 8 bytes hold
abbrev pub started_bytes : Drive → (rt a : ℕ) → Buffers → ℕ
started_bytes m rt a b = length (flat bytes (joined (take (length b.starts) (groups (min a 65534 - 8) 65536 (selected rt 0 m)))))

-- a round's number: none, or 23, 24, 25
abbrev pub OfRounds : ℕ → Type 0
OfRounds k = (k ≡ 0) ⊎ ((k ≡ 23) ⊎ ((k ≡ 24) ⊎ (k ≡ 25)))

pub record Outright (s : Sheet) (rt a : ℕ) (b : Buffers) (o : Ending) : Type 0 where
  -- the sheet's numbers, 21, 22, 12, and only then those of the rounds
  pub order : Bytes s.bytes → Given (verdict s).number (Rule 21 (rt ≤ 1) (Rule 22 (8 ≤ a) (Rule 12 (min a 65534 ≤ length b.response) OfRounds))) (number o)
  -- 25 before 24: a round that has no start is refused for that, whatever its bytes; one that has a start is refused where its bytes have no room
  pub no_start : Bytes s.bytes → Accepted s → number o ≡ 25 → started_bytes (meaning s) rt a b ≤ length b.collected
  pub no_room : Bytes s.bytes → Accepted s → number o ≡ 24 → length b.collected < started_bytes (meaning s) rt a b
  -- any refusal: both counts 0, all three buffers 0 throughout
  pub counts : (number o ≡ 0 → ⊥) → (o.reply.commands ≡ 0) × (o.reply.collected ≡ 0)
  pub clears : (number o ≡ 0 → ⊥)
      → (o.buffers.response ≡ replicate (length b.response) 0) × (o.buffers.collected ≡ replicate (length b.collected) 0) × (o.buffers.starts ≡ replicate (length b.starts) 0)

-- ---- the definition has it

runs_number : {m : Drive} {rt a n f c k : ℕ} {b bs : Buffers} {o : Ending} → Runs m rt a b n f c k bs o → OfRounds (number o)
unfolding failing finished
runs_number (done q j c d) = inl (ap number q)
runs_number (stuck q xs d ys x z u g) = inr (inl (ap number q))
runs_number (tight q x g) = inr (inr (inl (ap number q)))
runs_number (spent q x g) = inr (inr (inr (ap number q)))

all_started : (m : Drive) (rt a : ℕ) (b : Buffers) → 0 + begun (length b.starts - 0) (plan m rt a 65536 0) ≡ started_bytes m rt a b
all_started m rt a b = omega (arith, ap (λ (n : ℕ). begun n (plan m rt a 65536 0)) {x = length b.starts - 0} {y = length b.starts} (omega arith))

-- the rounds that have a start: with 24 their bytes have no room, with 25 they have
module _ (m : Drive) (rt a : ℕ) (b : Buffers) {o : Ending} where
  runs_narrow : Runs m rt a b 65536 0 0 0 b o → number o ≡ 24 → length b.collected < started_bytes m rt a b
  unfolding failing finished
  runs_narrow (done q j c d) e = absurd (omega (arith, ap number q))
  runs_narrow (stuck q xs d ys x z u g) e = absurd (omega (arith, ap number q))
  runs_narrow (tight q x g) e = subst (λ (n : ℕ). length b.collected < n) (all_started m rt a b) g
  runs_narrow (spent q x g) e = absurd (omega (arith, ap number q))

  runs_many : Runs m rt a b 65536 0 0 0 b o → number o ≡ 25 → started_bytes m rt a b ≤ length b.collected
  unfolding failing finished
  runs_many (done q j c d) e = absurd (omega (arith, ap number q))
  runs_many (stuck q xs d ys x z u g) e = absurd (omega (arith, ap number q))
  runs_many (tight q x g) e = absurd (omega (arith, ap number q))
  runs_many (spent q x g) e = subst (λ (n : ℕ). n ≤ length b.collected) (all_started m rt a b) g

module _ (s : Sheet) (rt a : ℕ) (b : Buffers) where
  abbrev o : Ending
  o = benched s rt a b

  abbrev first : Refusal
  first = first_fault s rt a (length b.response)

  abbrev run : Ending
  run = run_from (meaning s) (state (fresh rt a) b)

  -- a refusal before any round is the number
  refused_first : (first.number ≡ 0 → ⊥) → number o ≡ first.number
  unfolding benched failing
  refused_first h = ap number (unless_fault first _ _ h)

  runs_then : first.number ≡ 0 → o ≡ run
  unfolding benched
  runs_then e = unless_none first _ _ e

  refused_as : (r : Refusal) → first ≡ r → (r.number ≡ 0 → ⊥) → number o ≡ r.number
  refused_as r e h = refused_first (λ z. h (sym (ap (λ (x : Refusal). x.number) e) ∙ z)) ∙ ap (λ (x : Refusal). x.number) e

  -- the sheet is accepted
  module _ (ok : (verdict s).number ≡ 0) where
    first_start : first ≡ start_rule rt a or_else (refuse 12 if ltb (length b.response) (min a 65534) else accept)
    unfolding first_fault
    first_start = or_else_none (verdict s) _ ok

    over_one : 1 < rt → number o ≡ 21
    unfolding start_rule
    over_one h = refused_as (refuse 21) (first_start ∙ rw (lt-ltb 1 rt h, if_true) (or_else_fault (refuse 21) _ (λ z. absurd (omega arith)))) (λ z. absurd (omega arith))

    under_eight : rt ≤ 1 → a < 8 → number o ≡ 22
    unfolding start_rule
    under_eight t h = refused_as (refuse 22) (first_start ∙ rw (le-ltb 1 rt t, lt-ltb a 8 h, if_true, if_false) (or_else_fault (refuse 22) _ (λ z. absurd (omega arith)))) (λ z. absurd (omega arith))

    module _ (t : rt ≤ 1) (e : 8 ≤ a) where
      only_room : first ≡ (refuse 12 if ltb (length b.response) (min a 65534) else accept)
      only_room = first_room s rt a b ok (omega arith) e

      too_short : length b.response < min a 65534 → number o ≡ 12
      too_short h = refused_as (refuse 12) (only_room ∙ rw (lt-ltb (length b.response) (min a 65534) h) (if_true (refuse 12) accept)) (λ z. absurd (omega arith))

      module _ (h : min a 65534 ≤ length b.response) where
        first_none : first.number ≡ 0
        first_none =
            let q : first ≡ accept = only_room ∙ rw (le-ltb (length b.response) (min a 65534) h) (if_false (refuse 12) accept) in
            ap (λ (r : Refusal). r.number) q

        runs : Bytes s.bytes → Runs (meaning s) rt a b 65536 0 0 0 b o
        runs y = rw (runs_then first_none) (run_runs (meaning_fine s y ok).sound rt a (omega arith) e b h)

  -- the numbers before the rounds, in their order
  order : Bytes s.bytes → Given (verdict s).number (Rule 21 (rt ≤ 1) (Rule 22 (8 ≤ a) (Rule 12 (min a 65534 ≤ length b.response) OfRounds))) (number o)
  unfolding first_fault
  order y = go (verdict s).number refl
    where
      go : (n : ℕ) → (verdict s).number ≡ n → Given (verdict s).number (Rule 21 (rt ≤ 1) (Rule 22 (8 ≤ a) (Rule 12 (min a 65534 ≤ length b.response) OfRounds))) (number o)
      go (suc n) e = let h : (verdict s).number ≡ 0 → ⊥ = λ z. omega arith in broken (refused_as (verdict s) (or_else_fault (verdict s) _ h) h) h
      go zero ok = kept ok (⊎_elim
          (λ (h : 2 ≤ rt). broken (over_one ok h) (λ t. absurd (omega arith)))
          (λ (h : rt < 2).
          let t : rt ≤ 1 = omega arith in
          kept t (⊎_elim
          (λ (e : 8 ≤ a). kept e (⊎_elim
          (λ (r : min a 65534 ≤ length b.response). kept r (runs_number (runs ok t e r y)))
          (λ (r : length b.response < min a 65534). broken (too_short ok t e r) (λ k. absurd (omega arith)))
          (le_or_lt (min a 65534) (length b.response))))
          (λ (e : a < 8). broken (under_eight ok t e) (λ k. absurd (omega arith)))
          (le_or_lt 8 a)))
          (le_or_lt 2 rt))

  -- a number of the rounds comes of a run
  of_run : Bytes s.bytes → Accepted s → (P : Type 0) → (Runs (meaning s) rt a b 65536 0 0 0 b o → P) → 22 < number o → P
  of_run y v P f l = go (order y)
    where
      go : Given (verdict s).number (Rule 21 (rt ≤ 1) (Rule 22 (8 ≤ a) (Rule 12 (min a 65534 ≤ length b.response) OfRounds))) (number o) → P
      go (broken q h) = absurd (h v)
      go (kept ok (broken q h)) = absurd (omega arith)
      go (kept ok (kept t (broken q h))) = absurd (omega arith)
      go (kept ok (kept t (kept c (broken q h)))) = absurd (omega arith)
      go (kept ok (kept t (kept c (kept r x)))) = f (runs ok t c r y)

  refused_all : (number o ≡ 0 → ⊥) → o ≡ failing b o.reply.refusal
  refused_all h = ⊎_elim (λ (e : number o ≡ 0). absurd (h e)) (λ (e : o ≡ failing b o.reply.refusal). e) (settled s rt a b)

pub outright : (s : Sheet) (rt a : ℕ) (b : Buffers) → Outright s rt a b (benched s rt a b)
unfolding failing zeros
outright s rt a b = record {
  order = order s rt a b;
  no_start = λ y v e. of_run s rt a b y v _ (λ r. runs_many (meaning s) rt a b r e) (omega arith);
  no_room = λ y v e. of_run s rt a b y v _ (λ r. runs_narrow (meaning s) rt a b r e) (omega arith);
  counts = λ h. let q = refused_all s rt a b h in (ap (λ (x : Ending). x.reply.commands) q, ap (λ (x : Ending). x.reply.collected) q);
  clears = λ h.
      let q = refused_all s rt a b h in
      (ap (λ (x : Ending). x.buffers.response) q, ap (λ (x : Ending). x.buffers.collected) q, ap (λ (x : Ending). x.buffers.starts) q);
}
