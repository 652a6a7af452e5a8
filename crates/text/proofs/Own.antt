-- What a driver reads off a response that the box sent. Assumes nothing.
use mathlib.Core.Path.{◌≡◌, refl, sym, ap, ◌∙◌}
use mathlib.Core.Logic.{⊎_elim}
use mathlib.Core.Bool.{true, false, not, ◌&&◌, and-false}
use mathlib.Core.List.{List, [], ◌∷◌, ◌++◌}
use Prim.Native.Nat.{ℕ, zero, suc, ◌+◌, ◌-◌, ◌≤◌, ◌<◌, min}
use native.Mathlib.Omega.{arith}
use lib.Dec.{leb, eqb}
use lib.ListN.{length, take, drop, length-append, length-take, length-drop}
use lib.Seq.{drop_at}
use borrow.Author.Tests.{le-leb, lt-leb, eq-eqb, ne_eqb}
use Rattle.base.specs.Lists.{flat, All}
use Rattle.base.proofs.Lists.{all_map, drop_behind, take_append_ge}
use Rattle.refusal.specs.declared.Refusal.{Refusal}
use Rattle.refusal.specs.First.{accept, unless}
use Rattle.text.specs.Flags.{current}
use Rattle.text.specs.Drive.{Desc, Drive, Good, Asc, Sound}
use Rattle.text.specs.Response.{bytes, wants, selected, current_profile, header, data_length, full, sent}
use Rattle.text.specs.Reading.{Walked, stated_length, stated_profile, stated_end, length_at, head_fault, walk, walked, read_fault, taken, reading, wholes}
use Rattle.text.specs.Packing.{size, total, whole, rest}
use Rattle.base.proofs.Compare.{le_or_lt}
use Rattle.text.proofs.Selection.{asc_down, wants_current, selected_wanted, selected_asc, selected_good}
use Rattle.text.proofs.Sizes.{length_bytes, length_header, length_full, data_length_four}
use Rattle.text.proofs.Sent.{length_sent, sent_field, sent_profile}
use Rattle.text.proofs.Packing.{length_flat_bytes, whole_fit, whole_cut, rest_none, rest_some}
use Rattle.text.proofs.Walk.{walk_end, walk_short, walk_step, HeaderFine, head_rule_accept, head, length_head, bytes_head, number_at_here, flags_at_here, length_at_here, desc_at_here, read_fault_accept}

-- ---- a wanted descriptor is refused neither by 18 nor by 19

pub record Fit (rt sfn : ℕ) (d : Desc) : Type 0 where
  pub one : (eqb rt 2 && not (eqb d.number sfn)) ≡ false
  pub on : (eqb rt 1 && not (eqb (current d.flags) 1)) ≡ false

pub wants_fit : (rt sfn : ℕ) (d : Desc) → wants rt sfn d ≡ true → Fit rt sfn d
unfolding wants
wants_fit zero sfn d e = record { one = refl; on = refl }
wants_fit (suc zero) sfn d e = record { one = refl; on = ap not (eq-eqb (current d.flags) 1 (wants_current sfn d e)) }
wants_fit (suc (suc rt)) sfn d e = record {
  one = rw e (and-false (eqb (suc (suc rt)) 2));
  on = rw (ne_eqb (suc (suc rt)) 1 (λ z. omega arith));
}

-- ---- a walk over the front of a row of descriptors

module _ (rt sfn end : ℕ) (s : List ℕ) where
  -- a walk that refuses nothing and finds these
  abbrev Finds : (k lo at : ℕ) → List Desc → Type 0
  Finds k lo at ds = walk k rt sfn end s lo at ≡ record { fault = accept; found = ds }

  -- a descriptor that may stand at a place
  module _ (lo at : ℕ) (d : Desc) (g : Good d) (f : Fit rt sfn d) (a : lo ≤ d.number) (w : at + size d ≤ end) where
    head_fine : (x : List ℕ) → drop at s ≡ head d ++ x → (head_fault rt sfn end s lo at).number ≡ 0
    unfolding head_fault
    head_fine x e =
        rw (number_at_here s at d x e g.number_low, flags_at_here s at d x e, length_at_here s at d x e)
        (ap (λ (r : Refusal). r.number) (head_rule_accept rt sfn end lo at d.number d.flags (length d.body) record { four = g.four; from = a; one = f.one; on = f.on; within = omega arith }))

    -- all of it is there
    one_whole : (k : ℕ) (x : List ℕ) (ds : List Desc) → drop at s ≡ bytes d ++ x → Finds k (d.number + 1) (at + 4 + length d.body) ds → Finds (suc k) lo at (d ∷ ds)
    one_whole k x ds e h =
        let q : drop at s ≡ head d ++ (d.body ++ x) = e ∙ bytes_head d x in
        let n : length_at s at ≡ length d.body = length_at_here s at d (d.body ++ x) q in
        let l : at + 4 + length d.body ≤ length s = omega (arith, length-drop at s, ap length e, length-append (bytes d) x, length_bytes d) in
        walk_step k rt sfn end s lo at (omega arith) (head_fine (d.body ++ x) q) (omega arith)
        ∙ rw (n, number_at_here s at d (d.body ++ x) q g.number_low, desc_at_here s at d (d.body ++ x) q g.number_low x refl, h)

    -- its four header bytes are there, its body is cut
    one_cut : (k room : ℕ) (x : List ℕ) → drop at s ≡ take room (bytes d ++ x) → 4 ≤ length (drop at s) → room < size d → Finds (suc k) lo at []
    one_cut k room x e h l =
        let y : List ℕ = d.body ++ x in
        let c : length (take room (bytes d ++ x)) ≡ min room (length (bytes d ++ x)) = length-take room (bytes d ++ x) in
        let q : drop at s ≡ head d ++ take (room - length (head d)) y = e ∙ ap (take room) (bytes_head d x) ∙ take_append_ge room (head d) y (omega (arith, length_head d, ap length e)) in
        walk_short k rt sfn end s lo at (omega (arith, length-drop at s)) (head_fine (take (room - length (head d)) y) q)
        (rw (length_at_here s at d (take (room - length (head d)) y) q) (omega (arith, length-drop at s, ap length e)))

  -- of descriptors that stand one after the other, as far as they were received, it finds those that are whole
  pub walk_front : (k room lo at : ℕ) (ds : List Desc) → drop at s ≡ take room (flat bytes ds) → All Good ds → All (Fit rt sfn) ds → Asc lo ds
      → at + total ds ≤ end → length s ≤ at + k → Finds k lo at (whole room ds)
  unfolding flat total whole
  walk_front k room lo at [] e g f a w h = walk_end k rt sfn end s lo at (omega (arith, length-drop at s, ap length e, length-take room (flat bytes [])))
  walk_front zero room lo at (d ∷ ds) e g f a w h =
      let c : length (drop at s) ≡ min room (length (bytes d ++ flat bytes ds)) = ap length e ∙ length-take room (bytes d ++ flat bytes ds) in
      rw (whole_cut room d ds (omega (arith, length-drop at s, length-append (bytes d) (flat bytes ds), length_bytes d)))
      (walk_end zero rt sfn end s lo at (omega arith))
  walk_front (suc k) room lo at (d ∷ ds) e g f a w h = ⊎_elim
      (λ (l : size d ≤ room).
      let x : List ℕ = take (room - size d) (flat bytes ds) in
      let q : drop at s ≡ bytes d ++ x = e ∙ take_append_ge room (bytes d) (flat bytes ds) (omega (arith, length_bytes d)) ∙ ap (λ (n : ℕ). bytes d ++ take (room - n) (flat bytes ds)) (length_bytes d) in
      let r : drop (at + 4 + length d.body) s ≡ x = ap (λ (n : ℕ). drop n s) {x = at + 4 + length d.body} {y = at + size d} (omega arith) ∙ drop_behind s at (bytes d) x (size d) q (length_bytes d) in
      rw (whole_fit room d ds l)
      (one_whole lo at d g.0 f.0 a.0 (omega arith) k x (whole (room - size d) ds) q
      (walk_front k (room - size d) (d.number + 1) (at + 4 + length d.body) ds r g.1 f.1 (asc_down (d.number + 1) (1 + d.number) ds (omega arith) a.1) (omega arith) (omega arith))))
      (λ (l : room < size d).
      rw (whole_cut room d ds l)
      (⊎_elim
      (λ (m : 4 ≤ length (drop at s)). one_cut lo at d g.0 f.0 a.0 (omega arith) k room (flat bytes ds) e m l)
      (λ (m : length (drop at s) < 4). walk_end (suc k) rt sfn end s lo at (omega (arith, length-drop at s)))
      (le_or_lt 4 (length (drop at s)))))
      (le_or_lt (size d) room)

-- ---- what the box sends

eqb_min : (c f n : ℕ) → n ≡ min c f → eqb n f ≡ leb f c
eqb_min c f n e = ⊎_elim
    (λ (h : f ≤ c). eq-eqb n f (omega arith) ∙ sym (le-leb f c h))
    (λ (h : c < f). ne_eqb n f (λ z. omega arith) ∙ sym (lt-leb f c h))
    (le_or_lt f c)

module _ (rt sfn a : ℕ) (m : Drive) (h : 8 ≤ a) where
  -- behind the header stands a front of what was selected
  pub sent_behind : drop 8 (sent rt sfn a m) ≡ take (min a 65534 - 8) (flat bytes (selected rt sfn m))
  unfolding sent full
  sent_behind =
      let ds : List Desc = selected rt sfn m in
      let x : List ℕ = header (data_length ds) (current_profile m.profiles) in
      let n : length x ≡ 8 = length_header (data_length ds) (current_profile m.profiles) in
      ap (drop 8) (take_append_ge (min a 65534) x (flat bytes ds) (omega arith))
      ∙ drop_at x (take (min a 65534 - length x) (flat bytes ds)) 8 n
      ∙ ap (λ (k : ℕ). take (min a 65534 - k) (flat bytes ds)) n

  -- nothing is cut exactly if no selected descriptor is left
  pub complete_none : length (full rt sfn m) ≤ min a 65534 → rest (min a 65534 - 8) (selected rt sfn m) ≡ []
  complete_none c = rest_none (min a 65534 - 8) (selected rt sfn m) (omega (arith, length_full rt sfn m, length_flat_bytes (selected rt sfn m)))

  pub cut_some : min a 65534 < length (full rt sfn m) → 0 < length (rest (min a 65534 - 8) (selected rt sfn m))
  cut_some c = rest_some (min a 65534 - 8) (selected rt sfn m) (omega (arith, length_full rt sfn m, length_flat_bytes (selected rt sfn m)))

module _ {m : Drive} (good : Sound m) (rt sfn a : ℕ) (h : 8 ≤ a) where
  pub stated_length_sent : stated_length (sent rt sfn a m) ≡ data_length (selected rt sfn m)
  unfolding stated_length
  stated_length_sent = sent_field rt sfn a m good (omega arith)

  pub stated_profile_sent : stated_profile (sent rt sfn a m) ≡ current_profile m.profiles
  unfolding stated_profile
  stated_profile_sent = sent_profile rt sfn a m good h

  pub stated_end_sent : stated_end (sent rt sfn a m) ≡ length (full rt sfn m)
  unfolding data_length
  stated_end_sent = omega (arith, stated_length_sent, length_full rt sfn m)

  -- complete exactly if nothing was cut
  pub complete_sent : eqb (length (sent rt sfn a m)) (stated_end (sent rt sfn a m)) ≡ leb (length (full rt sfn m)) (min a 65534)
  complete_sent =
      let n : length (sent rt sfn a m) ≡ min (min a 65534) (length (full rt sfn m)) = length_sent rt sfn a m in
      rw stated_end_sent (eqb_min (min a 65534) (length (full rt sfn m)) (length (sent rt sfn a m)) n)

  -- exactly the descriptors that were sent whole
  pub walked_sent : walked rt sfn (sent rt sfn a m) ≡ record { fault = accept; found = whole (min a 65534 - 8) (selected rt sfn m) }
  unfolding walked
  walked_sent =
      let s : List ℕ = sent rt sfn a m in
      let ds : List Desc = selected rt sfn m in
      walk_front rt sfn (stated_end s) s (length s) (min a 65534 - 8) sfn 8 ds (sent_behind rt sfn a m h) (selected_good good rt sfn)
      (all_map (λ (d : Desc). wants rt sfn d ≡ true) (Fit rt sfn) (wants_fit rt sfn) ds (selected_wanted rt sfn m))
      (selected_asc good rt sfn)
      (omega (arith, stated_end_sent, length_full rt sfn m, length_flat_bytes ds))
      (omega arith)

  module _ (limit : ℕ) (two : rt ≤ 2) (room : min a 65534 ≤ limit) where
    -- it is accepted
    pub read_fault_sent : read_fault limit rt sfn (sent rt sfn a m) ≡ accept
    unfolding data_length
    read_fault_sent =
        let s : List ℕ = sent rt sfn a m in
        let n : length s ≡ min (min a 65534) (length (full rt sfn m)) = length_sent rt sfn a m in
        let fine : HeaderFine limit rt (length s) (stated_length s) = record {
          two = two;
          eight = omega (arith, length_full rt sfn m);
          most = omega arith;
          low = omega (arith, stated_length_sent);
          four = rw stated_length_sent (data_length_four good rt sfn);
          within = omega (arith, stated_end_sent);
          room = omega arith;
        } in
        read_fault_accept limit rt sfn s fine (ap (λ (w : Walked). w.fault.number) walked_sent)

    pub wholes_sent : wholes limit rt sfn (sent rt sfn a m) ≡ whole (min a 65534 - 8) (selected rt sfn m)
    unfolding wholes unless
    wholes_sent = rw (read_fault_sent, walked_sent)

    pub reading_sent : reading limit rt sfn (sent rt sfn a m) ≡ record {
      refusal = accept;
      profile = record { 0 = current_profile m.profiles };
      data_length = data_length (selected rt sfn m);
      count = length (whole (min a 65534 - 8) (selected rt sfn m));
      end = 8 + length (flat bytes (whole (min a 65534 - 8) (selected rt sfn m)));
      complete = leb (length (full rt sfn m)) (min a 65534);
    }
    unfolding reading unless taken
    reading_sent = rw (read_fault_sent, walked_sent, stated_profile_sent, complete_sent, stated_length_sent)
