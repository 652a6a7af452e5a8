-- What is refused of a list of profiles, in plain numbers of its bytes: a definition that is wrong is refused here, whatever code and laws are changed with
-- it. Assumes nothing.
use borrow.Author.Tests.{eq-eqb, ne_eqb, lt-ltb}
use mathlib.Core.Path.{◌≡◌, refl, sym, ap, ◌∙◌}
use mathlib.Core.Bool.{Bool, true, false}
use mathlib.Core.Logic.{◌⊎◌, inl, inr}
use mathlib.Core.List.{List}
use Prim.Native.Nat.{ℕ, zero, suc, ◌+◌, ◌*◌, ◌/◌, ◌%◌, ◌≤◌, ◌<◌}
use native.Mathlib.Omega.{arith}
use lib.ListN.{length}
use Rattle.base.specs.Lists.{each}
use Rattle.base.proofs.Lists.{each_all}
use Rattle.refusal.specs.declared.Refusal.{Refusal}
use Rattle.refusal.specs.First.{refuse, accept, ◌if◌else◌}
use Rattle.refusal.proofs.First.{if_true, first_at_law, placed_fault}
use Rattle.text.specs.Drive.{Listed}
use Rattle.text.specs.Response.{current_profile}
use Rattle.text.proofs.Profiles.{current_on, current_off, current_none}
use Rattle.text.proofs.Promised.{byte, two, field_two}
use Rattle.profiles.specs.Profiles.{profile_number, profile_current, profile_last, listed, profiles_of, lists, record_rule, record_fault, records_fault, Kept}
use Rattle.profiles.proofs.Kept.{lists_differs, kept_accept, record_accept}

-- profile i of the list b, counted from 0, as the format asks: its number not 0 and not listed before, its third byte 0 or 1, its last byte 0
pub record Right (b : List ℕ) (i : ℕ) : Type 0 where
  pub above : 0 < two b (4 * i)
  pub new : (j : ℕ) → j < i → two b (4 * j) ≡ two b (4 * i) → ⊥
  pub one : byte b (4 * i + 2) ≤ 1
  pub nought : byte b (4 * i + 3) ≡ 0

-- and with a fault: number 0; the number of an earlier one; third byte over 1; last byte not 0
pub record Again (b : List ℕ) (i : ℕ) : Type 0 where
  pub earlier : ℕ
  pub is_earlier : earlier < i
  pub same_number : two b (4 * earlier) ≡ two b (4 * i)

abbrev pub Wrong : List ℕ → ℕ → Type 0
Wrong b i = (two b (4 * i) ≡ 0) ⊎ (Again b i ⊎ ((1 < byte b (4 * i + 2)) ⊎ (byte b (4 * i + 3) ≡ 0 → ⊥)))

-- Of what is refused, r, of the list b: 3 with the place of the first that has a fault, counted from 1; nothing where none has
pub record Listing (b : List ℕ) (r : Refusal) : Type 0 where
  pub three : (i : ℕ) → i < length b / 4 → ((j : ℕ) → j < i → Right b j) → Wrong b i → r ≡ record { number = 3; place = suc i }
  pub none : ((i : ℕ) → i < length b / 4 → Right b i) → r ≡ accept

-- ---- the definitions' words for these

pub right_kept : (b : List ℕ) (i : ℕ) → Right b i → Kept b i
unfolding profile_number profile_current profile_last
right_kept b i r = record {
  above = rw (field_two b (4 * i)) r.above;
  new = λ j l e. r.new j l (sym (field_two b (4 * j)) ∙ e ∙ field_two b (4 * i));
  one = r.one;
  nought = r.nought;
}

lists_there : (m : ℕ) (b : List ℕ) (i j : ℕ) → j < i → profile_number b j ≡ m → lists m b 0 i ≡ true
lists_there m b i j l e = go (lists m b 0 i) refl
  where
    go : (t : Bool) → lists m b 0 i ≡ t → t ≡ true
    go true q = refl
    go false q = absurd (lists_differs m b 0 i q j l (ap (profile_number b) (omega arith) ∙ e))

-- 3 whatever the test, where it is 3 anyway
three_too : (t : Bool) (y : Refusal) → y ≡ refuse 3 → (refuse 3 if t else y) ≡ refuse 3
unfolding ◌if◌else◌
three_too true y e = refl
three_too false y e = e

wrong_rule : (b : List ℕ) (i : ℕ) → Wrong b i → record_rule (profile_number b i) (lists (profile_number b i) b 0 i) (profile_current b i) (profile_last b i) ≡ refuse 3
unfolding record_rule profile_number profile_current profile_last
wrong_rule b i (inl e) = rw (eq-eqb (profile_number b i) 0 (field_two b (4 * i) ∙ e), if_true)
wrong_rule b i (inr (inl a)) =
    three_too _ _ (rw (lists_there (profile_number b i) b i a.earlier a.is_earlier (field_two b (4 * a.earlier) ∙ a.same_number ∙ sym (field_two b (4 * i))), if_true))
wrong_rule b i (inr (inr (inl l))) = three_too _ _ (three_too _ _ (rw (lt-ltb 1 (profile_current b i) l, if_true)))
wrong_rule b i (inr (inr (inr n))) = three_too _ _ (three_too _ _ (three_too _ _ (rw (ne_eqb (profile_last b i) 0 n, if_true))))

wrong_fault : (b : List ℕ) (i : ℕ) → Wrong b i → record_fault b i ≡ record { number = 3; place = suc i }
unfolding record_fault
wrong_fault b i w =
    let e = wrong_rule b i w in
    placed_fault _ (suc i) (λ z. omega (arith, ap (λ (r : Refusal). r.number) e, z)) ∙ ap (λ (r : Refusal). record { number = r.number; place = suc i }) e

pub listing : (b : List ℕ) → Listing b (records_fault b)
unfolding records_fault
listing b = record {
  three = λ i l before w. first_at_law (record_fault b) (length b / 4) i l (λ j m. ap (λ (r : Refusal). r.number) (record_accept b j (right_kept b j (before j m)))) (wrong_fault b i w) (λ z. omega arith);
  none = λ h. kept_accept b (λ i l. right_kept b i (h i l));
}

-- ---- which profile is current

-- Of the current profile n of the list b: the number of the first profile whose third byte has bit 0 set, 0 if there is none
pub record Currents (b : List ℕ) (n : ℕ) : Type 0 where
  pub first : (i : ℕ) → i < length b / 4 → ((j : ℕ) → j < i → byte b (4 * j + 2) % 2 ≡ 0) → byte b (4 * i + 2) % 2 ≡ 1 → n ≡ two b (4 * i)
  pub none : ((i : ℕ) → i < length b / 4 → byte b (4 * i + 2) % 2 ≡ 0) → n ≡ 0

module _ (b : List ℕ) where
  off : (i : ℕ) → byte b (4 * i + 2) % 2 ≡ 0 → (listed b i).on ≡ false
  unfolding listed profile_current
  off i e = ne_eqb (byte b (4 * i + 2) % 2) 1 (λ z. omega (arith, e, z))

  on : (i : ℕ) → byte b (4 * i + 2) % 2 ≡ 1 → (listed b i).on ≡ true
  unfolding listed profile_current
  on i e = eq-eqb (byte b (4 * i + 2) % 2) 1 e

  current_at_here : (i j m : ℕ) → j < m → ((l : ℕ) → i ≤ l → l < i + j → (listed b l).on ≡ false) → (listed b (i + j)).on ≡ true
      → current_profile (each (listed b) i m) ≡ (listed b (i + j)).number
  unfolding each
  current_at_here i j zero l h e = absurd (omega arith)
  current_at_here i zero (suc m) l h e =
      let q : i ≡ i + 0 = omega arith in
      current_on (listed b i) (each (listed b) (suc i) m) (ap (λ (k : ℕ). (listed b k).on) q ∙ e) ∙ ap (λ (k : ℕ). (listed b k).number) q
  current_at_here i (suc j) (suc m) l h e =
      let q : suc i + j ≡ i + suc j = omega arith in
      current_off (listed b i) (each (listed b) (suc i) m) (h i (omega arith) (omega arith))
      ∙ current_at_here (suc i) j m (omega arith) (λ k x y. h k (omega arith) (omega arith)) (ap (λ (k : ℕ). (listed b k).on) q ∙ e)
      ∙ ap (λ (k : ℕ). (listed b k).number) q

  pub currents : Currents b (current_profile (profiles_of b))
  unfolding profiles_of listed profile_number
  currents = record {
    first = λ i l h e.
        let q : 0 + i ≡ i = omega arith in
        current_at_here 0 i (length b / 4) l (λ k x y. off k (h k (omega arith))) (ap (λ (k : ℕ). (listed b k).on) q ∙ on i e) ∙ ap (λ (k : ℕ). (listed b k).number) q ∙ field_two b (4 * i);
    none = λ h. current_none (each (listed b) 0 (length b / 4)) (each_all (λ (p : Listed). p.on ≡ false) (listed b) 0 (length b / 4) (λ j x y. off j (h j (omega arith))));
  }
