-- The mender's answers case by case: refused, 49, 50, mended. Assumes nothing.
use borrow.Author.Tests.{lt-ltb, le-ltb}
use mathlib.Core.Path.{◌≡◌, refl, sym, ap, ap₂, subst, ◌∙◌}
use mathlib.Core.Bool.{Bool}
use mathlib.Core.List.{List, ◌++◌}
use Prim.Native.Nat.{ℕ, ◌+◌, ◌≤◌, ◌<◌}
use native.Mathlib.Omega.{arith}
use lib.Dec.{ltb}
use lib.ListN.{length, take, drop, length-append, length-drop, take-append-drop}
use lib.Seq.{sets, sets-eq, take_at, drop_at, take_all, take-append-le, drop-append-le, length-take-le}
use Rattle.base.specs.Lists.{flat, Bytes}
use Rattle.refusal.specs.declared.Refusal.{Refusal}
use Rattle.refusal.specs.First.{refuse, accept, ◌if◌else◌, unless}
use Rattle.refusal.proofs.First.{or_else_none, or_else_fault, unless_none, unless_fault}
use Rattle.lent.specs.Wrote.{Wrote}
use Rattle.lent.proofs.Laws.{front}
use Rattle.text.specs.Response.{bytes}
use Rattle.text.proofs.Received.{stand_flat, wholes_stand}
use Rattle.reading.specs.Places.{descs, reported}
use Rattle.reading.specs.Completed.{complete_fault}
use Rattle.reading.proofs.Completed.{complete_zero}
use Rattle.reading.proofs.Places.{wholes_end}
use Rattle.refusal.proofs.Calls.{if_yes, if_no}
use Rattle.mend.specs.declared.Mended.{Mended}
use Rattle.mend.specs.Mended.{mended_descs, mended}
use Rattle.mend.specs.Changes.{Change, changes, notes}
use Rattle.mend.specs.Mend.{outcome, refused, refusing, mending, mend_fault, mends}
use Rattle.mend.specs.inner.Fixes.{Fixes}
use Rattle.mend.proofs.Changes.{changes_append, changes_same, count_anywhere, length_notes}
use Rattle.mend.proofs.Again.{length_mended}
use Rattle.mend.proofs.Walking.{count_of}

module _ (r d l : List ℕ) where
  abbrev total : ℕ
  total = length (changes 0 r (mended r))

  abbrev list_rule : Refusal
  list_rule = refuse 50 if ltb (length l) total else accept

  abbrev room_rule : Refusal
  room_rule = refuse 49 if ltb (length d) (length r) else list_rule

  refuses : (x : Refusal) → mend_fault r d l ≡ x → (x.number ≡ 0 → ⊥) → (m : Mended) → m ≡ refused x → outcome m d l ≡ mends r d l
  unfolding mends refusing
  refuses x e h m q =
      ap (λ (n : Mended). outcome n d l) q
      ∙ sym (ap (λ (y : Refusal). unless y (refusing d l) (mending r d l)) e ∙ unless_fault x (refusing d l) (mending r d l) h)

  pub mends_input : (x : Refusal) → x ≡ complete_fault r → (x.number ≡ 0 → ⊥) → (m : Mended) → m ≡ refused x → outcome m d l ≡ mends r d l
  unfolding mend_fault
  mends_input x e h =
      refuses x (or_else_fault (complete_fault r) room_rule (λ z. h (ap (λ (y : Refusal). y.number) e ∙ z)) ∙ sym e) h

  module _ (c : (complete_fault r).number ≡ 0) where
    pub mends_copy : length d < length r → (m : Mended) → m ≡ refused (refuse 49) → outcome m d l ≡ mends r d l
    unfolding mend_fault
    mends_copy h =
        refuses (refuse 49) (or_else_none (complete_fault r) room_rule c ∙ if_yes (refuse 49) list_rule _ (lt-ltb (length d) (length r) h)) (λ z. absurd (omega arith))

    module _ (bs : Bytes r) (removable : Bool) (e : removable ≡ reported 3 (descs r)) (fits : length r ≤ length d) where
      abbrev X : List ℕ
      X = flat bytes (mended_descs (reported 3 (descs r)) (descs r))

      ends : 8 + length (flat bytes (descs r)) ≡ length r
      ends = let k = complete_zero r c in wholes_end 0 0 r 65534 k.read k.ends

      behind : drop 8 r ≡ flat bytes (descs r)
      behind = sym (stand_flat r 8 (descs r) bs (wholes_stand 65534 0 0 r) ∙ take_all (length (flat bytes (descs r))) (drop 8 r) (omega (arith, ends, length-drop 8 r)))

      eight : length (take 8 r) ≡ 8
      eight = length-take-le 8 r (omega (arith, ends))

      size : length X ≡ length (flat bytes (descs r))
      size = length_mended (reported 3 (descs r)) (descs r)

      -- the changes of the whole response are those of its descriptors
      changes_are : changes 0 r (mended r) ≡ changes 8 (flat bytes (descs r)) X
      unfolding mended
      changes_are =
          ap (λ (x : List ℕ). changes 0 x (take 8 r ++ X)) (sym (take-append-drop 8 r))
          ∙ changes_append 0 (take 8 r) (take 8 r) (drop 8 r) X refl
          ∙ ap (λ (cs : List Change). cs ++ changes (0 + length (take 8 r)) (drop 8 r) X) (changes_same 0 (take 8 r))
          ∙ ap₂ (λ (i : ℕ) (x : List ℕ). changes i x X) (omega (arith, eight)) behind

      total_is : total ≡ count_of removable (descs r)
      total_is =
          ap length changes_are ∙ count_anywhere 8 0 (flat bytes (descs r)) X
          ∙ ap (λ (t : Bool). count_of t (descs r)) (sym e)

      pub mends_list : (count : ℕ) → count ≡ count_of removable (descs r) → length l < count → (m : Mended) → m ≡ refused (refuse 50) → outcome m d l ≡ mends r d l
      unfolding mend_fault
      mends_list count q h =
          refuses (refuse 50)
          (or_else_none (complete_fault r) room_rule c
          ∙ if_no (refuse 49) list_rule _ (le-ltb (length d) (length r) fits)
          ∙ if_yes (refuse 50) accept _ (lt-ltb (length l) total (omega (arith, total_is, q)))) (λ z. absurd (omega arith))

      module _ (count : ℕ) (q : count ≡ count_of removable (descs r)) (room : count ≤ length l) {len n : ℕ} {g f o : List ℕ} (w : Wrote d 0 r len g)
          (x : Fixes g l 0 8 (flat bytes (mended_descs removable (descs r))) n f o) where
        fault_none : (mend_fault r d l).number ≡ 0
        unfolding mend_fault
        fault_none =
            ap (λ (y : Refusal). y.number)
            (or_else_none (complete_fault r) room_rule c
            ∙ if_no (refuse 49) list_rule _ (le-ltb (length d) (length r) fits)
            ∙ if_no (refuse 50) accept _ (le-ltb (length l) total (omega (arith, total_is, q))))

        x_is : flat bytes (mended_descs removable (descs r)) ≡ X
        x_is = ap (λ (t : Bool). flat bytes (mended_descs t (descs r))) e

        copied : g ≡ r ++ drop (length r) d
        copied = front w fits

        copy_is : f ≡ mended r ++ drop (length r) d
        unfolding mended
        copy_is =
            x.copy ∙ ap₂ (λ (y z : List ℕ). sets y 8 z) copied x_is
            ∙ sets-eq X (r ++ drop (length r) d) 8 (omega (arith, size, ends, length-append r (drop (length r) d)))
            ∙ ap₂ (λ (y z : List ℕ). y ++ X ++ z)
            (take-append-le 8 r (drop (length r) d) (omega (arith, ends)))
            (ap (λ (i : ℕ). drop i (r ++ drop (length r) d)) {x = 8 + length X} {y = length r} (omega (arith, size, ends)) ∙ drop_at r (drop (length r) d) (length r) refl)

        there : take (length X) (drop 8 g) ≡ flat bytes (descs r)
        there =
            ap (λ (y : List ℕ). take (length X) (drop 8 y)) copied
            ∙ ap (take (length X)) (drop-append-le 8 r (drop (length r) d) (omega (arith, ends)) ∙ ap (λ (y : List ℕ). y ++ drop (length r) d) behind)
            ∙ take_at (flat bytes (descs r)) (drop (length r) d) (length X) (sym size)

        noted : Wrote l 0 (notes (changes 0 r (mended r))) n o
        noted =
            subst (λ (cs : List Change). Wrote l 0 (notes cs) n o) (ap (λ (y : List ℕ). changes 8 y X) there ∙ sym changes_are)
            (subst (λ (y : List ℕ). Wrote l 0 (notes (changes 8 (take (length y) (drop 8 g)) y)) n o) x_is x.list)

        many : length (notes (changes 0 r (mended r))) ≡ total
        many = length_notes (changes 0 r (mended r))

        fewer : length (notes (changes 0 r (mended r))) ≤ length l
        fewer = omega (arith, many, total_is, q)

        list_is : o ≡ notes (changes 0 r (mended r)) ++ drop total l
        list_is = front noted fewer ∙ ap (λ (i : ℕ). notes (changes 0 r (mended r)) ++ drop i l) many

        pub mends_made : (m : Mended) → m ≡ record { refusal = accept; length = len; changes = n } → outcome m f o ≡ mends r d l
        unfolding mends mending
        mends_made m y =
            let a : len ≡ length r = omega (arith, w.next) in
            let b : n ≡ total = omega (arith, noted.next, many, fewer) in
            ap (λ (z : Mended). outcome z f o) (y ∙ ap₂ (λ (i j : ℕ). record { refusal = accept; length = i; changes = j }) a b)
            ∙ ap₂ (outcome (record { refusal = accept; length = length r; changes = total })) copy_is list_is
            ∙ sym (unless_none (mend_fault r d l) (refusing d l) (mending r d l) fault_none)

-- the copy before anything is put over it
pub copied_front : {r d g : List ℕ} {len : ℕ} → Wrote d 0 r len g → length r ≤ length d → take (length r) g ≡ r
copied_front {r} {d} {g} {len} w h = ap (take (length r)) (front w h) ∙ take_at r (drop (length r) d) (length r) refl
