-- The laws of `Fixes`, and of counting. Assumes nothing.
use mathlib.Core.Path.{◌≡◌, refl, sym, ap, ap₂, subst, ◌∙◌}
use mathlib.Core.List.{List, [], ◌∷◌, ◌++◌}
use Prim.Native.Nat.{ℕ, suc, ◌+◌, ◌*◌, ◌≤◌, ◌<◌}
use native.Mathlib.Nat.{zero-add}
use native.Mathlib.Numerals.{add-one}
use native.Mathlib.Omega.{arith}
use lib.ListN.{length, get_or, set, take, drop, length-append, length-take, length-drop, take-append-drop}
use lib.Seq.{sets, length-sets, sets-eq, take-suc, take-add, drop-cons, drop-set-lt, length-take-le, take-length}
use Rattle.base.specs.Lists.{each}
use Rattle.base.proofs.Lists.{length_each, each_snoc, take_more}
use Rattle.lent.specs.Wrote.{Wrote}
use Rattle.lent.proofs.Laws.{nothing, nowhere, stored, then, written_as}
use Rattle.lent.proofs.Sets.{sets_append}
use Rattle.mend.specs.declared.Plan.{Plan}
use Rattle.mend.specs.Changes.{Change, change_at, changes, note_of, notes}
use Rattle.mend.specs.inner.Plan.{planned, planned_body}
use Rattle.mend.specs.inner.Fixes.{Fixes}
use Rattle.mend.proofs.Changes.{change_none, change_some, changes_append, changes_same, notes_append, count_anywhere}

-- ---- a note

module _ (l : List ℕ) (n place a b : ℕ) where
  pub noted_none : a ≡ b → Wrote l n (notes (change_at place a b)) n l
  unfolding notes
  noted_none e = rw (change_none place a b e) (nothing l n)

  pub noted_some : (a ≡ b → ⊥) → n < length l → Wrote l n (notes (change_at place a b)) (n + 1) (set l n ((place * 256 + a) * 256 + b))
  unfolding notes note_of
  noted_some h r = rw (change_some place a b h) (stored l n ((place * 256 + a) * 256 + b) r)

  pub noted_nowhere : length l ≤ n → Wrote l n (notes (change_at place a b)) n l
  noted_nowhere r = nowhere l n (notes (change_at place a b)) r

-- ---- bytes put over others

one_change : (place a b : ℕ) → changes place (a ∷ []) (b ∷ []) ≡ change_at place a b
unfolding changes
one_change place a b = append_none (change_at place a b)
  where
    append_none : (cs : List Change) → cs ++ [] ≡ cs
    append_none [] = refl
    append_none (c ∷ cs) = ap (λ (es : List Change). c ∷ es) (append_none cs)

one_there : (d : List ℕ) (place : ℕ) → place < length d → take 1 (drop place d) ≡ get_or d place 0 ∷ []
one_there d place h = rw (drop-cons d place 0 h)

module _ (d l : List ℕ) (n place : ℕ) where
  -- nothing
  pub fixes_none : Fixes d l n place [] n d l
  unfolding changes notes
  fixes_none = record { copy = refl; list = nothing l n }

  -- what stands there already
  pub fixes_same : (xs : List ℕ) → place + length xs ≤ length d → xs ≡ take (length xs) (drop place d) → Fixes d l n place xs n d l
  unfolding notes
  fixes_same xs h e = record {
    copy = sym (sets-eq xs d place h ∙ again);
    list = subst (λ (ys : List ℕ). Wrote l n (notes (changes place ys xs)) n l) e (rw (changes_same place xs) (nothing l n));
  }
    where
      again : take place d ++ xs ++ drop (place + length xs) d ≡ d
      again =
          ap (λ (x : List ℕ). take place d ++ x ++ drop (place + length xs) d) e
          ∙ ap (λ (x : List ℕ). x ++ drop (place + length xs) d) (sym (take-add place (length xs) d))
          ∙ take-append-drop (place + length xs) d

  -- one byte
  pub fixes_one : (b r : ℕ) (m : List ℕ) → place < length d → Wrote l n (notes (change_at place (get_or d place 0) b)) r m → Fixes d l n place (b ∷ []) r (set d place b) m
  fixes_one b r m h w = record {
    copy = refl;
    list = rw (one_there d place h, one_change place (get_or d place 0) b) w;
  }

-- one after another
pub drop_sets : (d : List ℕ) (place : ℕ) (xs : List ℕ) (k : ℕ) → place + length xs ≤ k → drop k (sets d place xs) ≡ drop k d
drop_sets d place [] k h = refl
drop_sets d place (x ∷ xs) k h = drop_sets (set d place x) (suc place) xs k (omega arith) ∙ drop-set-lt k d place x (omega arith)

pub fixes_then : {d e f l m o : List ℕ} {n r q place : ℕ} (xs ys : List ℕ) → place + length xs + length ys ≤ length d
    → Fixes d l n place xs r e m → Fixes e m r (place + length xs) ys q f o → Fixes d l n place (xs ++ ys) q f o
fixes_then {d} {e} {f} {l} {m} {o} {n} {r} {q} {place} xs ys h v w =
    let a : List ℕ = take (length xs) (drop place d) in
    let b : List ℕ = take (length ys) (drop (place + length xs) d) in
    let la : length a ≡ length xs = omega (arith, length-take (length xs) (drop place d), length-drop place d) in
    let k : drop (place + length xs) e ≡ drop (place + length xs) d = ap (drop (place + length xs)) v.copy ∙ drop_sets d place xs (place + length xs) (omega arith) in
    let z : take (length (xs ++ ys)) (drop place d) ≡ a ++ b = ap (λ (i : ℕ). take i (drop place d)) (length-append xs ys) ∙ sym (take_more d place (length xs) (length ys)) in
    let y : changes place (a ++ b) (xs ++ ys) ≡ changes place a xs ++ changes (place + length xs) b ys =
    changes_append place a xs b ys la ∙ ap (λ (i : ℕ). changes place a xs ++ changes (place + i) b ys) la in
    record {
      copy = w.copy ∙ ap (λ (x : List ℕ). sets x (place + length xs) ys) v.copy ∙ sym (sets_append d place xs ys);
      list = written_as (sym (ap (λ (x : List ℕ). notes (changes place x (xs ++ ys))) z ∙ ap notes y ∙ notes_append (changes place a xs) (changes (place + length xs) b ys)))
          (then v.list (written_as (ap (λ (x : List ℕ). notes (changes (place + length xs) (take (length ys) x) ys)) k) w.list));
    }

pub fixes_length : {d l e m : List ℕ} {n place r : ℕ} {xs : List ℕ} → Fixes d l n place xs r e m → length e ≡ length d
fixes_length {d} {l} {e} {m} {n} {place} {r} {xs} v = ap length v.copy ∙ length-sets d place xs

-- ---- a body, byte by byte

module _ (p : Plan) (body : List ℕ) where
  abbrev by : ℕ → ℕ
  by k = planned p k (get_or body k 0)

  -- how many changes its first k bytes have
  pub record Counted (count k : ℕ) : Type 0 where
    pub within : k ≤ length body
    pub is : count ≡ length (changes 0 (take k body) (each by 0 k))
    pub few : count ≤ k

  pub counted_start : Counted 0 0
  unfolding changes each
  counted_start = record { within = omega arith; is = refl; few = omega arith }

  more_changes : (k : ℕ) → k < length body → changes 0 (take (suc k) body) (each by 0 (suc k)) ≡ changes 0 (take k body) (each by 0 k) ++ change_at k (get_or body k 0) (by k)
  more_changes k h =
      let l : length (take k body) ≡ k = length-take-le k body (omega arith) in
      ap₂ (changes 0) (take-suc body k 0 h) (each_snoc by 0 k)
      ∙ changes_append 0 (take k body) (each by 0 k) (get_or body k 0 ∷ []) (by (0 + k) ∷ []) (l ∙ sym (length_each by 0 k))
      ∙ ap (λ (i : ℕ). changes 0 (take k body) (each by 0 k) ++ changes i (get_or body k 0 ∷ []) (by (0 + k) ∷ [])) (zero-add (length (take k body)) ∙ l)
      ∙ ap (λ (i : ℕ). changes 0 (take k body) (each by 0 k) ++ changes k (get_or body k 0 ∷ []) (by i ∷ [])) (zero-add k)
      ∙ ap (λ (cs : List Change). changes 0 (take k body) (each by 0 k) ++ cs) (one_change k (get_or body k 0) (by k))

  pub counted_more : {count k : ℕ} (one b : ℕ) → Counted count k → k < length body → b ≡ planned p k (get_or body k 0) → (one ≡ length (change_at 0 (get_or body k 0) b)) × (one ≤ 1)
      → Counted (count + one) (k + 1)
  counted_more {count} {k} one b c h q o = record {
    within = omega arith;
    is = rw (add-one k)
        (sym (ap length (more_changes k h)
        ∙ length-append (changes 0 (take k body) (each by 0 k)) (change_at k (get_or body k 0) (by k))
        ∙ ap₂ ◌+◌ (sym c.is) (anywhere k (get_or body k 0) (by k) ∙ ap (λ (x : ℕ). length (change_at 0 (get_or body k 0) x)) (sym q) ∙ sym o.0)));
    few = omega (arith, c.few, o.1);
  }
    where
      anywhere : (i x y : ℕ) → length (change_at i x y) ≡ length (change_at 0 x y)
      anywhere i x y = sym (ap length (one_change i x y)) ∙ count_anywhere i 0 (x ∷ []) (y ∷ []) ∙ ap length (one_change 0 x y)

  pub counted_end : {count k : ℕ} → Counted count k → length body ≤ k → (count ≡ length (changes 0 body (planned_body p body))) × (count ≤ length body)
  unfolding planned_body
  counted_end {count} {k} c h =
      let e : k ≡ length body = omega (arith, c.within) in
      (c.is ∙ rw (e, take-length body), omega (arith, c.few, e))

  -- the first k bytes put over what stands in d
  module _ (d l : List ℕ) (n place : ℕ) where
    pub record Put (e m : List ℕ) (next k : ℕ) : Type 0 where
      pub within : k ≤ length body
      pub done : Fixes d l n place (each by 0 k) next e m

    pub put_start : Put d l n 0
    unfolding each
    put_start = record { within = omega arith; done = fixes_none d l n place }

    pub put_more : {e f m o : List ℕ} {next r k : ℕ} (b : ℕ) → place + length body ≤ length d → Put e m next k → k < length body → b ≡ planned p k (get_or body k 0)
        → Fixes e m next (place + k) (b ∷ []) r f o → Put f o r (k + 1)
    put_more {e} {f} {m} {o} {next} {r} {k} b room u h q w =
        let lk : length (each by 0 k) ≡ k = length_each by 0 k in
        let z : each by 0 (suc k) ≡ each by 0 k ++ (b ∷ []) = each_snoc by 0 k ∙ ap (λ (i : ℕ). each by 0 k ++ (by i ∷ [])) (zero-add k) ∙ ap (λ (x : ℕ). each by 0 k ++ (x ∷ [])) (sym q) in
        record {
          within = omega arith;
          done = rw (add-one k, z)
              (fixes_then (each by 0 k) (b ∷ []) (omega (arith, lk)) u.done (subst (λ (i : ℕ). Fixes e m next (place + i) (b ∷ []) r f o) (sym lk) w));
        }

    pub put_end : {e m : List ℕ} {next k : ℕ} → Put e m next k → length body ≤ k → Fixes d l n place (planned_body p body) next e m
    unfolding planned_body
    put_end {e} {m} {next} {k} u h =
        let q : k ≡ length body = omega (arith, u.within) in
        subst (λ (i : ℕ). Fixes d l n place (each by 0 i) next e m) q u.done
