-- A turn of a walk that carries whatever it likes: P is what it knows of the walk that is left. Assumes nothing.
use mathlib.Core.Path.{◌≡◌, refl, sym, ap, subst, ◌∙◌}
use mathlib.Core.Logic.{⊎_elim}
use mathlib.Core.Bool.{true≢false}
use mathlib.Core.List.{List}
use Prim.Native.Nat.{ℕ, suc, ◌+◌, ◌-◌, ◌*◌, ◌≤◌, ◌<◌}
use native.Mathlib.Omega.{arith}
use lib.ListN.{length}
use Rattle.base.proofs.Compare.{le_or_lt}
use Rattle.refusal.specs.declared.Refusal.{Refusal}
use Rattle.refusal.specs.First.{accept}
use Rattle.text.specs.declared.Feature.{Feature}
use Rattle.text.specs.Reading.{Walked, stop, onward, number_at, flags_at, length_at, desc_at, head_fault, walk}
use Rattle.text.proofs.Walk.{walk_end, walk_bad, walk_short, walk_step, head_rule_zero}
use Rattle.reading.specs.declared.Head.{Head}
use Rattle.reading.specs.declared.Head.TheVariants as head
use Rattle.reading.specs.inner.Tally.{head_at}
use Rattle.reading.proofs.Tally.{by_cases, head_facts}

-- the walk that is left from a place on, of which as many steps were taken as descriptors lie before it, 4 bytes or more each
pub record Going (rt sfn end : ℕ) (s : List ℕ) (lo at : ℕ) (P : Walked → Type 0) : Type 0 where
  pub spent : ℕ
  pub room : 4 * spent + 8 ≤ at
  pub left : P (walk (length s - spent) rt sfn end s lo at)

module _ (rt sfn end : ℕ) (s : List ℕ) (P : Walked → Type 0) where
  pub going_start : P (walk (length s) rt sfn end s sfn 8) → Going rt sfn end s sfn 8 P
  going_start p = record { spent = 0; room = omega arith; left = subst (λ (k : ℕ). P (walk k rt sfn end s sfn 8)) (omega arith) p }

  -- the end, a refusal, a cut descriptor, a further turn
  module _ (lo at : ℕ) (g : Going rt sfn end s lo at P) where
    pub going_end : length s < at + 4 → P (stop accept)
    going_end h = subst P (walk_end (length s - g.spent) rt sfn end s lo at h) g.left

    module _ (h : Head) (q : h ≡ head_at rt sfn end s lo at) (l : at + 4 ≤ length s) where
      one : (x : Walked) → walk (suc (length s - (g.spent + 1))) rt sfn end s lo at ≡ x → P x
      one x e =
          subst P
          (ap (λ (k : ℕ). walk k rt sfn end s lo at) {x = length s - g.spent} {y = suc (length s - (g.spent + 1))} (omega (arith, g.room)) ∙ e)
          g.left

      pub going_fault : (r : Refusal) → h ≡ head.Refused r → (r.number ≡ 0 → ⊥) × P (stop r)
      unfolding head_at
      going_fault r k =
          by_cases (head_fault rt sfn end s lo at) head.Refused _ _ (sym k ∙ q) (λ z f. absurd (true≢false cc))
          (λ z f. let e : r ≡ head_fault rt sfn end s lo at = cc in rw e (z, one _ (walk_bad _ rt sfn end s lo at l z)))

      module _ (number : Feature) (len : ℕ) (k : h ≡ head.Stands number len) where
        facts : ((head_fault rt sfn end s lo at).number ≡ 0) × (number ≡ record { 0 = number_at s at }) × (len ≡ length_at s at)
        facts = head_facts rt sfn end s lo at h q number len k

        pub going_number : number.0 ≡ number_at s at
        going_number = ap (λ (f : Feature). f.0) facts.1

        pub going_length : len ≡ length_at s at
        going_length = facts.2

        pub going_from : lo ≤ number.0
        unfolding head_fault
        going_from = rw going_number (head_rule_zero rt sfn end lo at (number_at s at) (flags_at s at) (length_at s at) facts.0).from

        pub going_cut : length s < at + 4 + len → P (stop accept)
        going_cut m = one (stop accept) (walk_short _ rt sfn end s lo at l facts.0 (rw (← facts.2) m))

        pub going_more : (Q : Walked → Type 0) → at + 4 + len ≤ length s → ((w : Walked) → P (onward (desc_at s at) w) → Q w) → Going rt sfn end s (number.0 + 1) (at + 4 + len) Q
        going_more Q m f = record {
          spent = g.spent + 1;
          room = omega (arith, g.room);
          left = rw (facts.2, going_number) (f _ (one _ (walk_step _ rt sfn end s lo at l facts.0 (rw (← facts.2) m))));
        }

        -- the same where a cut descriptor is passed too: behind it the walk is at its end
        pub going_past : (Q : Walked → Type 0) → ((w : Walked) → P (onward (desc_at s at) w) → Q w) → (P (stop accept) → Q (stop accept)) → Going rt sfn end s (number.0 + 1) (at + 4 + len) Q
        going_past Q f z = ⊎_elim (λ m. going_more Q m f) cut (le_or_lt (at + 4 + len) (length s))
          where
            cut : length s < at + 4 + len → Going rt sfn end s (number.0 + 1) (at + 4 + len) Q
            cut m = record {
              spent = g.spent + 1;
              room = omega (arith, g.room);
              left = subst Q (sym (walk_end _ rt sfn end s (number.0 + 1) (at + 4 + len) (omega arith))) (z (going_cut m));
            }

-- ---- a walk that carries nothing: of the whole walk and of what is left the refusal has the same number

pub record Numbered (end : ℕ) (s : List ℕ) (lo at : ℕ) : Type 0 where
  pub going : Going 0 0 end s lo at (λ w. (walk (length s) 0 0 end s 0 8).fault.number ≡ w.fault.number)

pub numbered_start : (end : ℕ) (s : List ℕ) → Numbered end s 0 8
numbered_start end s = record { going = going_start 0 0 end s _ refl }

module _ (end : ℕ) (s : List ℕ) (lo at : ℕ) (g : Numbered end s lo at) where
  pub numbered_end : length s < at + 4 → 0 ≡ (walk (length s) 0 0 end s 0 8).fault.number
  numbered_end h = sym (going_end 0 0 end s _ lo at g.going h)

  module _ (h : Head) (q : h ≡ head_at 0 0 end s lo at) (l : at + 4 ≤ length s) where
    pub numbered_fault : (r : Refusal) → h ≡ head.Refused r → r.number ≡ (walk (length s) 0 0 end s 0 8).fault.number
    numbered_fault r k = sym (going_fault 0 0 end s _ lo at g.going h q l r k).1

    pub numbered_more : (number : Feature) (len : ℕ) → h ≡ head.Stands number len → Numbered end s (number.0 + 1) (at + 4 + len)
    numbered_more number len k = record { going = going_past 0 0 end s _ lo at g.going h q l number len k _ (λ w e. e) (λ e. e) }
