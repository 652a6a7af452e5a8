-- The walk over a text: what was put, and what is left to spell. Assumes nothing.
use mathlib.Core.Path.{◌≡◌, refl, sym, ap, ◌∙◌}
use mathlib.Core.Bool.{Bool, true, false}
use mathlib.Core.List.{List, [], ◌++◌, append_assoc, append-nil}
use Prim.Native.Nat.{ℕ, suc, ◌+◌, ◌-◌, ◌≤◌, ◌<◌}
use native.Mathlib.Nat.{zero-add}
use native.Mathlib.Numerals.{add-one}
use native.Mathlib.Omega.{arith}
use lib.ListN.{length, length-append}
use lib.Seq.{sets, length-sets}
use Rattle.lent.proofs.Sets.{sets_append}
use Rattle.hex_text.specs.declared.State.{State}
use Rattle.hex_text.specs.declared.Effect.{Effect}
use Rattle.hex_text.specs.declared.Spelt.{Spelt}
use Rattle.hex_text.specs.Chars.{line_at}
use Rattle.hex_text.specs.Front.{opened}
use Rattle.hex_text.specs.Steps.{step}
use Rattle.hex_text.specs.Text.{Spelling, some, ended, taken, spelling, spelled}
use Rattle.hex_text.specs.inner.Walk.{finished, Walked}
use Rattle.hex_text.proofs.Cases.{choose_yes, choose_no}
use Rattle.hex_text.proofs.Lines.{line_some}
use Rattle.hex_text.proofs.Puts.{finished_line, ended_bytes}

-- in the text s and the buffer d, which is e by now: the bytes done, and what is left from index i on
pub record Going (s d : List ℕ) (q : State) (count i : ℕ) (e : List ℕ) : Type 0 where
  pub done : List ℕ
  pub bytes : (spelled s).bytes ≡ done ++ (spelling (length s - i) q s i).bytes
  pub line : (spelled s).line ≡ (spelling (length s - i) q s i).line
  pub counted : count ≡ length done
  pub few : count ≤ i
  pub within : i ≤ length s
  pub holds : e ≡ sets d 0 done

pub going_start : (s d : List ℕ) (q : State) → q ≡ opened false false s 0 → Going s d q 0 0 d
unfolding spelled
going_start s d q e =
    let n : length s - 0 ≡ length s = omega arith in
    record {
      done = [];
      bytes = rw (n, e);
      line = rw (n, e);
      counted = refl;
      few = omega arith;
      within = omega arith;
      holds = refl;
    }

some_few : (p : Bool) (b : ℕ) → length (some p b) ≤ 1
unfolding some
some_few true b = omega arith
some_few false b = omega arith

module _ {s d e : List ℕ} {q : State} {count i : ℕ} (g : Going s d q count i e) where
  pub going_length : length e ≡ length d
  going_length = ap length g.holds ∙ length-sets d 0 g.done

  pub going_fits : {n : ℕ} {Z : Type 0} (p : Bool) (b : ℕ) → i < length s → (n ≡ length (some p b)) × Z → count + n ≤ length s
  going_fits p b h o = omega (arith, g.few, o.0, some_few p b)

  -- the character at i was taken
  module _ (x : Effect) (h : i < length s) (k : x ≡ step q s i) where
    next : spelling (length s - i) q s i ≡ taken x (spelling (length s - (i + 1)) x.state s (i + 1)) s i
    unfolding spelling
    next =
        let n : length s - i ≡ suc (length s - suc i) = omega arith in
        rw (add-one, n, k)

    pub going_more : (n : ℕ) (f : List ℕ) → x.fault ≡ false → (n ≡ length (some x.spells x.byte)) × (f ≡ sets e count (some x.spells x.byte))
        → Going s d x.state (count + n) (i + 1) f
    unfolding taken
    going_more n f z p =
        let rest = spelling (length s - (i + 1)) x.state s (i + 1) in
        let o = some x.spells x.byte in
        let t : spelling (length s - i) q s i ≡ record { bytes = o ++ rest.bytes; line = rest.line } = next ∙ choose_no x.fault _ _ z in
        record {
          done = g.done ++ o;
          bytes = g.bytes ∙ ap (λ (y : Spelling). g.done ++ y.bytes) t ∙ sym (append_assoc g.done o rest.bytes);
          line = g.line ∙ ap (λ (y : Spelling). y.line) t;
          counted = omega (arith, g.counted, p.0, length-append g.done o);
          few = omega (arith, g.few, p.0, some_few x.spells x.byte);
          within = omega arith;
          holds =
              p.1 ∙ ap (λ (l : List ℕ). sets l count o) g.holds ∙ ap (λ (j : ℕ). sets (sets d 0 g.done) j o) (g.counted ∙ sym (zero-add (length g.done)))
              ∙ sym (sets_append d 0 g.done o);
        }

    pub going_fault : (l : ℕ) → x.fault ≡ true → l ≡ line_at s i → Walked (spelled s) d (record { line = l; count = 0 }) e
    unfolding taken
    going_fault l z f =
        let m : (spelled s).line ≡ l = g.line ∙ ap (λ (y : Spelling). y.line) (next ∙ choose_yes x.fault _ _ z) ∙ sym f in
        record {
          told = sym (finished_line (spelled s) l _ m (omega (arith, line_some s i)));
          holds = λ o. absurd (omega (arith, line_some s i));
        }

  -- the text is at its end
  pub going_end : (r : Spelt) → length s ≤ i → r ≡ finished (ended q s (length s)) count → Walked (spelled s) d r e
  unfolding spelling finished
  going_end r h f =
      let n : length s - i ≡ 0 = omega arith in
      let j : i ≡ length s = omega (arith, g.within) in
      let b : (spelled s).bytes ≡ g.done =
      g.bytes ∙ ap (λ (z : ℕ). g.done ++ (spelling z q s i).bytes) n ∙ ap (λ (z : List ℕ). g.done ++ z) (ended_bytes q s i) ∙ append-nil g.done in
      let l : (spelled s).line ≡ (ended q s (length s)).line =
      g.line ∙ ap (λ (z : ℕ). (spelling z q s i).line) n ∙ ap (λ (z : ℕ). (ended q s z).line) j in
      record {
        told = f ∙ cc (ap length b);
        holds = λ o. g.holds ∙ ap (sets d 0) (sym b);
      }
