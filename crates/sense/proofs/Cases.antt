-- The answers of maker and reader case by case, for those who state what they promise. Assumes nothing.
use mathlib.Core.Path.{◌≡◌, refl, ap, ◌∙◌}
use mathlib.Core.List.{List}
use Prim.Native.Nat.{ℕ, ◌%◌, ◌≤◌, ◌<◌}
use native.Mathlib.Omega.{arith}
use lib.Dec.{eqb}
use lib.ListN.{length, get_or}
use borrow.Author.Tests.{eq-eqb, ne_eqb}
use Rattle.refusal.specs.First.{refuse, accept}
use Rattle.refusal.proofs.First.{if_true, if_false, unless_none, unless_fault}
use Rattle.lent.specs.Maker.{refusing, making, makes}
use Rattle.lent.proofs.Maker.{makes_fault, makes_short, makes_made}
use Rattle.sense.specs.declared.Kind.{Kind}
use Rattle.sense.specs.declared.Sense.TheVariants.{Means, Refused}
use Rattle.sense.specs.Sense.{Heard, heard, given, kind_of, sense_of, bytes_of, made, same, kinds, form_fault, meant, sensed}
use Rattle.sense.proofs.Picked.{picked_none}
use Rattle.sense.proofs.Making.{sense_length}
use Rattle.sense.proofs.RoundTrip.{known, meant_one}

-- ---- the maker, with a number n and a buffer d

module _ (n : ℕ) (d : List ℕ) where
  kind_made : (x : Heard) → kind_of n ≡ x → made n d ≡ makes x.refusal 55 (bytes_of x.kind) d
  unfolding made
  kind_made x e = ap (λ (x : Heard). makes x.refusal 55 (bytes_of x.kind) d) e

  pub made_kind : (k : Kind) → kind_of n ≡ heard (Means k) → 18 ≤ length d → made n d ≡ making (sense_of k) d
  unfolding bytes_of
  made_kind k e h = kind_made (heard (Means k)) e ∙ makes_made accept 55 (sense_of k) d refl (omega (arith, sense_length k))

  pub made_other : ((kind_of n).refusal.number ≡ 0 → ⊥) → made n d ≡ refusing d (refuse 54)
  unfolding kind_of
  made_other h =
      kind_made (heard (Refused (refuse 54))) (picked_none (λ l. eqb l.0 n) (λ l. l.1) 54 given h)
      ∙ makes_fault (refuse 54) 55 (bytes_of (heard (Refused (refuse 54))).kind) d (λ z. omega arith)

  pub made_short : (kind_of n).refusal.number ≡ 0 → length d < 18 → made n d ≡ refusing d (refuse 55)
  unfolding bytes_of
  made_short e h =
      let k = known n e in
      kind_made (heard (Means k.kind)) k.is
      ∙ makes_short accept 55 (sense_of k.kind) d refl (λ z. omega arith) (omega (arith, sense_length k.kind))

-- ---- the reader, with the bytes s

module _ (s : List ℕ) where
  pub sensed_length : (length s ≡ 18 → ⊥) → sensed s ≡ heard (Refused (refuse 46))
  unfolding sensed form_fault
  sensed_length h = rw (ne_eqb (length s) 18 h, if_true) (unless_fault (refuse 46) (λ r. heard (Refused r)) (meant s) (λ z. omega arith))

  pub sensed_code : length s ≡ 18 → (get_or s 0 0 % 128 ≡ 0x70 → ⊥) → sensed s ≡ heard (Refused (refuse 47))
  unfolding sensed form_fault
  sensed_code e h =
      rw (eq-eqb (length s) 18 e, if_false, ne_eqb (get_or s 0 0 % 128) 0x70 h, if_true)
      (unless_fault (refuse 47) (λ r. heard (Refused r)) (meant s) (λ z. omega arith))

  pub sensed_other : length s ≡ 18 → get_or s 0 0 % 128 ≡ 0x70 → ((k : Kind) → s ≡ sense_of k → ⊥) → sensed s ≡ heard (Refused (refuse 48))
  unfolding sensed form_fault meant
  sensed_other e f h =
      rw (eq-eqb (length s) 18 e, if_false, eq-eqb (get_or s 0 0 % 128) 0x70 f, if_false)
      (unless_none accept (λ r. heard (Refused r)) (meant s) refl
      ∙ picked_none (λ k. same (sense_of k) s) (λ k. k) 48 kinds (λ z. let o = meant_one s z in h o.kind o.bytes))
