-- A feature that the table of legal lengths and body bits does not name breaks no rule but those of the flags. Assumes nothing.
use mathlib.Core.Path.{◌≡◌, refl, sym, ap, subst, ◌∙◌}
use mathlib.Core.Bool.{Bool, true, false, true≢false}
use mathlib.Core.List.{List, [], ◌∷◌}
use Prim.Native.Nat.{ℕ, zero, suc, ◌%◌, ◌<◌}
use native.Mathlib.Nat.{mod-lt, mod-eq_of_lt}
use native.Mathlib.Omega.{arith}
use lib.Bits.{bit_and, and_mask}
use lib.Dec.{eqb}
use lib.ListN.{get_or}
use borrow.Author.Tests.{eq-eqb}
use Rattle.base.specs.Lists.{All, Bytes}
use Rattle.base.proofs.Lists.{all_get_d}
use Rattle.fields.specs.Field.{spell}
use Rattle.refusal.specs.declared.Refusal.{Refusal}
use Rattle.refusal.specs.First.{refuse, accept}
use Rattle.refusal.proofs.First.{or_else_accepts, if_accepts, first_accepts}
use Rattle.text.specs.Drive.{Desc}
use Rattle.text.proofs.FlagsRule.{flags_good}
use Rattle.legal.specs.declared.Row.{Row}
use Rattle.base.specs.Pick.{pick}
use Rattle.legal.specs.Legal.{legal, other, mask_bytes, row_of}
use Rattle.checks.specs.Rules.{flags_fault, body_fault, profiles_fault, desc_fault}
use Rattle.legal.specs.Bodies.{mask_at}
use Rattle.checks.specs.Faultless.{Faultless}
use Rattle.base.proofs.Pick.{pick_here, pick_past}
use Rattle.checks.proofs.Faultless.{desc_accept}

-- a row with the number FFFFh is the one for other features, which the table does not have
module _ (f : ℕ) where
  abbrev is : Row → Bool
  is r = eqb r.0.0 f

  abbrev same : Row → Row
  same r = r

  abbrev found : List Row → Row
  found rs = pick is same other rs

  found_other : (rs : List Row) → All (λ (r : Row). eqb r.0.0 0xFFFF ≡ false) rs → (found rs).0.0 ≡ 0xFFFF → found rs ≡ other
  unfolding pick
  found_other [] h e = refl
  found_other (r ∷ rs) h e = go (eqb r.0.0 f) refl (found_other rs h.1)
    where
      go : (t : Bool) → eqb r.0.0 f ≡ t → ((found rs).0.0 ≡ 0xFFFF → found rs ≡ other) → found (r ∷ rs) ≡ other
      go true k more =
          let q : r.0.0 ≡ 0xFFFF = ap (λ (x : Row). x.0.0) (sym (pick_here is same other r rs k)) ∙ e in
          absurd (true≢false (sym (eq-eqb _ _ q) ∙ h.0))
      go false k more =
          pick_past is same other r rs k ∙ more (ap (λ (x : Row). x.0.0) (sym (pick_past is same other r rs k)) ∙ e)

  pub row_other : (row_of f).0.0 ≡ 0xFFFF → row_of f ≡ other
  unfolding row_of legal
  row_other = found_other legal (refl, (refl, (refl, (refl, (refl, (refl, (refl, (refl, (refl, (refl, (refl, tt)))))))))))

-- the table names the lowest four, and 002Eh
above : (f : ℕ) → (row_of f).0.0 ≡ 0xFFFF → 3 < f
unfolding row_of legal pick
above zero e = absurd (omega (arith, e))
above (suc zero) e = absurd (omega (arith, e))
above (suc (suc zero)) e = absurd (omega (arith, e))
above (suc (suc (suc zero))) e = absurd (omega (arith, e))
above (suc (suc (suc (suc f)))) e = omega arith

pub no_cue : (f : ℕ) → (row_of f).0.0 ≡ 0xFFFF → f ≡ 0x002E → ⊥
unfolding row_of legal pick
no_cue f e h = omega (arith, subst (λ (n : ℕ). (row_of n).0.0 ≡ 0xFFFF) h e)

-- any bits may be 1
pub any_bits_law : (b k n : ℕ) → b < 256 → bit_and b (mask_at other.1 other.2 n k) ≡ b
unfolding mask_at other mask_bytes spell
any_bits_law b k n l =
    ap (bit_and b)
    (all_get_d (λ m. m ≡ 255) (mask_bytes other.2) 0 (refl, (refl, (refl, (refl, (refl, (refl, (refl, (refl, (refl, (refl, (refl, (refl, tt)))))))))))) (k % 12) (mod-lt k (omega arith)))
    ∙ and_mask b 8 ∙ mod-eq_of_lt l

module _ (removable : Bool) (f flags : ℕ) (body : List ℕ) where
  abbrev d : Desc
  d = record { number = f; flags = flags; body = body }

  other_faultless : Bytes body → (row_of f).0.0 ≡ 0xFFFF → (flags_fault flags).number ≡ 0 → Faultless removable d
  unfolding flags_fault other
  other_faultless u e z =
      let g = flags_good (refuse 33) (refuse 34) flags (λ z. absurd (omega arith)) (λ z. absurd (omega arith)) z in
      let a = above f e in
      record {
        reserved_zero = g.reserved_zero;
        current_too = g.current_too;
        enough = rw (row_other f e) tt;
        no_more = rw (row_other f e) (λ v. tt);
        both = λ l. absurd (omega arith);
        free = rw (row_other f e) (λ b. absurd (true≢false (sym b)));
        clear = rw (row_other f e) (λ v k l. any_bits_law (get_or body k 0) k (get_or body 3 0) (u k));
        cue = λ v h. absurd (no_cue f e h);
        numbered = λ v h. absurd (omega arith);
      }

  -- what breaks no rule has no refusal at all
  desc_accepts : (desc_fault removable d).number ≡ 0 → desc_fault removable d ≡ accept
  unfolding desc_fault body_fault profiles_fault
  desc_accepts e =
      or_else_accepts _ _ (or_else_accepts _ _ (if_accepts accept _ _ (λ z. refl) (or_else_accepts _ _ (or_else_accepts _ _ (if_accepts accept _ _ (λ z. refl) (first_accepts _ 0 _)))))) e

  pub other_accept : (row : Row) (r : Refusal) → r ≡ flags_fault flags → r.number ≡ 0 → row ≡ row_of f → row.0.0 ≡ 0xFFFF → Bytes body
      → accept ≡ desc_fault removable d
  other_accept row r q z w h u = sym (desc_accepts (desc_accept removable d (other_faultless u (rw (← w) h) (rw (← q) z))))
