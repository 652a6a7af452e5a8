-- The two walks of the mender over the descriptors of a complete response. Assumes nothing.
use mathlib.Core.Path.{◌≡◌, refl, sym, ap, ap₂, subst, ◌∙◌}
use mathlib.Core.Bool.{Bool, true, false}
use mathlib.Core.List.{List, [], ◌∷◌, ◌++◌, append_assoc, append-nil}
use Prim.Native.Nat.{ℕ, ◌+◌, ◌≤◌, ◌<◌}
use native.Mathlib.Omega.{arith}
use lib.ListN.{length, take, drop, length-append, length-take, take-append-drop}
use lib.Seq.{take_at}
use Rattle.base.specs.Lists.{flat, Bytes}
use Rattle.base.proofs.Lists.{part_take}
use Rattle.text.specs.Drive.{Desc}
use Rattle.text.specs.Response.{bytes}
use Rattle.text.specs.Reading.{length_at, desc_at}
use Rattle.text.proofs.Sizes.{length_bytes}
use Rattle.text.proofs.Again.{bytes_desc_at}
use Rattle.text.proofs.Received.{length_desc_at}
use Rattle.reading.specs.Places.{descs, next_at}
use Rattle.reading.specs.Completed.{complete_fault}
use Rattle.reading.specs.inner.Between.{from}
use Rattle.reading.proofs.At.{next_is}
use Rattle.reading.proofs.Places.{from_step, from_end}
use Rattle.reading.proofs.Completed.{complete_zero, descs_from}
use Rattle.text.proofs.Walk.{read_fault_header}
use Rattle.reading.proofs.Loops.{Here, here_start, here_next, here_end, here_whole}
use Rattle.mend.specs.Mended.{mended_desc, mended_descs}
use Rattle.mend.specs.Changes.{changes}
use Rattle.mend.proofs.Changes.{changes_append, count_anywhere}
use Rattle.mend.proofs.Again.{length_body}
use Rattle.fields.specs.Field.{spell}
use Rattle.fields.proofs.Laws.{length_spell}
use Rattle.base.proofs.Lists.{drop_behind}
use Rattle.legal.specs.declared.Row.{Row}
use Rattle.legal.specs.Legal.{row_of}
use Rattle.mend.specs.declared.Plan.{Plan}
use Rattle.mend.specs.Mended.{mended_flags, mended_body}
use Rattle.mend.specs.inner.Plan.{plan_of, planned_body, dirty}
use Rattle.mend.specs.inner.Fixes.{Fixes, Standing}
use Rattle.mend.proofs.Fixing.{fixes_none, fixes_same, fixes_then, fixes_length, drop_sets}
use Rattle.mend.proofs.Made.{Seen, seen, seen_desc, seen_length, seen_bytes, seen_flags, bytes_apart, clean_body, dirty_body}

-- a descriptor keeps its size
size_kept : (removable : Bool) (d : Desc) → length (bytes (mended_desc removable d)) ≡ length (bytes d)
unfolding mended_desc
size_kept removable d = omega (arith, length_bytes (mended_desc removable d), length_bytes d, length_body d.number d.body d.flags)

module _ (removable : Bool) where
  -- how many changes descriptors have
  abbrev pub count_of : List Desc → ℕ
  count_of ds = length (changes 0 (flat bytes ds) (flat bytes (mended_descs removable ds)))

  count_step : (d : Desc) (ds : List Desc) → count_of (d ∷ ds) ≡ length (changes 0 (bytes d) (bytes (mended_desc removable d))) + count_of ds
  unfolding flat mended_descs
  count_step d ds =
      ap length (changes_append 0 (bytes d) (bytes (mended_desc removable d)) (flat bytes ds) (flat bytes (mended_descs removable ds)) (sym (size_kept removable d)))
      ∙ length-append (changes 0 (bytes d) (bytes (mended_desc removable d))) (changes (0 + length (bytes d)) (flat bytes ds) (flat bytes (mended_descs removable ds)))
      ∙ ap (λ (n : ℕ). length (changes 0 (bytes d) (bytes (mended_desc removable d))) + n) (count_anywhere (0 + length (bytes d)) 0 (flat bytes ds) (flat bytes (mended_descs removable ds)))

  module _ (s : List ℕ) where
    -- the count so far, and that of the descriptors from a place on, are all
    pub record Counts (count at : ℕ) : Type 0 where
      pub here : Here s at
      pub all : count + count_of (from s at) ≡ count_of (descs s)
      pub few : count ≤ at

    pub counts_start : (complete_fault s).number ≡ 0 → Counts 0 8
    counts_start e = record { here = here_start s e; all = omega (arith, ap count_of (descs_from s e)); few = omega arith }

    module _ {count at : ℕ} (c : Counts count at) where
      pub counts_whole : at + 4 ≤ length s → at + 4 + length_at s at ≤ length s
      counts_whole l = here_whole s at c.here (omega arith)

      pub counts_more : {one next : ℕ} → at + 4 ≤ length s → (one ≡ length (changes 0 (bytes (desc_at s at)) (bytes (mended_desc removable (desc_at s at))))) × (one ≤ 4 + length_at s at)
          → next ≡ next_at s at → Counts (count + one) next
      counts_more {one} {next} l o n =
          let h : at < length s = omega arith in
          let q : next ≡ at + 4 + length_at s at = next_is s at next h n in
          let z : count_of (from s at) ≡ one + count_of (from s next) =
          ap count_of (from_step s at h) ∙ count_step (desc_at s at) (from s (next_at s at)) ∙ ap₂ (λ (x k : ℕ). x + count_of (from s k)) (sym o.0) (sym n) in
          record { here = here_next s at c.here h next n; all = omega (arith, c.all, z); few = omega (arith, c.few, o.1, q) }

      pub counts_end : length s < at + 4 → count ≡ count_of (descs s)
      unfolding flat mended_descs changes
      counts_end l = omega (arith, c.all, ap count_of (from_end s at (here_end s at c.here l)))

-- ---- a descriptor put over the one that stands in the copy

module _ {removable : Bool} {s : List ℕ} {at fn fl : ℕ} {b : List ℕ} {row : Row} {g : ℕ} {d : List ℕ} (v : Seen removable s at fn fl b row g) (bs : Bytes s) (st : Standing s at d) where
  abbrev A : List ℕ
  A = spell 2 fn

  abbrev n : ℕ
  n = length b

  abbrev rest : List ℕ
  rest = drop (4 + length_at s at) (drop at d)

  two : length A ≡ 2
  two = length_spell 2 fn

  size : n ≡ length_at s at
  size = seen_length v bs st.whole

  -- what stands there
  stands : drop at d ≡ A ++ (fl ∷ n ∷ (b ++ rest))
  unfolding bytes
  stands =
      sym (take-append-drop (4 + length_at s at) (drop at d))
      ∙ ap (λ (x : List ℕ). x ++ rest) (st.same ∙ sym (bytes_desc_at s at bs st.whole) ∙ ap bytes (sym (seen_desc v bs st.whole)))
      ∙ append_assoc (A ++ (fl ∷ n ∷ [])) b rest
      ∙ append_assoc A (fl ∷ n ∷ []) (b ++ rest)

  behind_number : drop (at + 2) d ≡ fl ∷ n ∷ (b ++ rest)
  behind_number = drop_behind d at A (fl ∷ n ∷ (b ++ rest)) 2 stands two

  behind_flags : drop (at + 2 + 1) d ≡ n ∷ (b ++ rest)
  behind_flags = drop_behind d (at + 2) (fl ∷ []) (n ∷ (b ++ rest)) 1 behind_number refl

  room : at + 4 + n ≤ length d
  room = omega (arith, st.whole, st.room, size)

  -- the number stays
  number_stays : (l : List ℕ) (k : ℕ) → Fixes d l k at A k d l
  number_stays l k = fixes_same d l k at A (omega (arith, room, two)) (sym (ap (take (length A)) stands ∙ take_at A (fl ∷ n ∷ (b ++ rest)) (length A) refl))

  module _ {l m e : List ℕ} {k r : ℕ} (w : Fixes d l k (at + 2) (g ∷ []) r e m) where
    -- what stands behind the flags is as before
    still : drop (at + 2 + 1) e ≡ n ∷ (b ++ rest)
    still = ap (drop (at + 2 + 1)) w.copy ∙ drop_sets d (at + 2) (g ∷ []) (at + 2 + 1) (omega arith) ∙ behind_flags

    long : length e ≡ length d
    long = fixes_length w

    length_stays : Fixes e m r (at + 2 + 1) (n ∷ []) r e m
    length_stays = fixes_same e m r (at + 2 + 1) (n ∷ []) (omega (arith, room, long)) (sym (ap (take 1) still))

    behind_length : drop (at + 2 + 1 + 1) e ≡ b ++ rest
    behind_length = drop_behind e (at + 2 + 1) (n ∷ []) (b ++ rest) 1 still refl

    -- the first four bytes
    head_done : Fixes d l k at (A ++ (g ∷ []) ++ (n ∷ [])) r e m
    head_done =
        fixes_then (A ++ (g ∷ [])) (n ∷ []) (omega (arith, room, two, length-append A (g ∷ [])))
        (fixes_then A (g ∷ []) (omega (arith, room, two)) (number_stays l k) (subst (λ (i : ℕ). Fixes d l k i (g ∷ []) r e m) (omega (arith, two)) w))
        (subst (λ (i : ℕ). Fixes e m r i (n ∷ []) r e m) (omega (arith, two, length-append A (g ∷ []))) length_stays)

    head_length : length (A ++ (g ∷ []) ++ (n ∷ [])) ≡ 4
    head_length = omega (arith, length-append (A ++ (g ∷ [])) (n ∷ []), length-append A (g ∷ []), two)

    -- all of it, where these are the mended descriptor's bytes
    whole_is : (x : List ℕ) → x ≡ mended_body (row_of fn) fn fl b → A ++ (g ∷ []) ++ (n ∷ []) ++ x ≡ bytes (mended_desc removable (desc_at s at))
    unfolding mended_desc
    whole_is x q =
        ap₂ (λ (h : ℕ) (y : List ℕ). A ++ (h ∷ []) ++ (n ∷ []) ++ y) (seen_flags v bs st.whole) q
        ∙ ap (λ (i : ℕ). A ++ (mended_flags (row_of fn) removable fn fl ∷ []) ++ (i ∷ []) ++ mended_body (row_of fn) fn fl b) (sym (length_body fn b fl))
        ∙ sym (bytes_apart removable (seen v bs st.whole) (mended_desc removable (seen v bs st.whole)))
        ∙ ap (λ (y : Desc). bytes (mended_desc removable y)) (seen_desc v bs st.whole)

    module _ (t : Bool) (q : t ≡ dirty row fn fl b) where
      is_dirty : dirty (row_of fn) fn fl b ≡ t
      is_dirty = ap (λ (x : Row). dirty x fn fl b) (sym v.row_is) ∙ sym q

      pub fixed_clean : t ≡ false → Fixes d l k at (bytes (mended_desc removable (desc_at s at))) r e m
      fixed_clean h =
          let c : mended_body (row_of fn) fn fl b ≡ b = clean_body fn b fl (seen_bytes v bs st.whole) (is_dirty ∙ h) in
          let x : Fixes e m r (at + 2 + 1 + 1) b r e m =
          fixes_same e m r (at + 2 + 1 + 1) b (omega (arith, room, long)) (sym (ap (take n) behind_length ∙ take_at b rest n refl)) in
          rw (← whole_is b (sym c))
          (fixes_then (A ++ (g ∷ []) ++ (n ∷ [])) b (omega (arith, room, head_length)) head_done
          (subst (λ (i : ℕ). Fixes e m r i b r e m) (omega (arith, head_length)) x))

      pub fixed_dirty : t ≡ true → {f o : List ℕ} {u : ℕ} (p : Plan) → p ≡ plan_of row fn b → Fixes e m r (at + 4) (planned_body p b) u f o
          → Fixes d l k at (bytes (mended_desc removable (desc_at s at))) u f o
      fixed_dirty h {f} {o} {u} p z x =
          let c : planned_body p b ≡ mended_body (row_of fn) fn fl b =
          ap (λ (y : Plan). planned_body y b) z ∙ ap (λ (y : Row). planned_body (plan_of y fn b) b) v.row_is ∙ dirty_body fn b fl (is_dirty ∙ h) in
          let y : length (planned_body p b) ≡ n = ap length c ∙ length_body fn b fl in
          rw (← whole_is (planned_body p b) c)
          (fixes_then (A ++ (g ∷ []) ++ (n ∷ [])) (planned_body p b) (omega (arith, room, head_length, y)) head_done
          (subst (λ (i : ℕ). Fixes e m r i (planned_body p b) u f o) (omega (arith, head_length)) x))

-- ---- the walk

module _ (removable : Bool) (s d l : List ℕ) where
  -- what was put so far, which ends at a place, and what is left
  pub record Putting (e m : List ℕ) (k at : ℕ) : Type 0 where
    pub here : Here s at
    pub done : List ℕ
    pub ends : 8 + length done ≡ at
    pub put : Fixes d l 0 8 done k e m
    pub all : done ++ flat bytes (mended_descs removable (from s at)) ≡ flat bytes (mended_descs removable (descs s))

  pub putting_start : (complete_fault s).number ≡ 0 → Putting d l 0 8
  putting_start c = record {
    here = here_start s c;
    done = [];
    ends = omega arith;
    put = fixes_none d l 0 8;
    all = ap (λ (ds : List Desc). flat bytes (mended_descs removable ds)) (sym (descs_from s c));
  }

  module _ {e m : List ℕ} {k at : ℕ} (c : (complete_fault s).number ≡ 0) (same : take (length s) d ≡ s) (p : Putting e m k at) where
    fits : length s ≤ length d
    fits = omega (arith, ap length same, length-take (length s) d)

    short_enough : length s ≤ 65534
    short_enough = (read_fault_header 65534 0 0 s (complete_zero s c).read).most

    module _ (h : at + 4 ≤ length s) where
      is_whole : at + 4 + length_at s at ≤ length s
      is_whole = here_whole s at p.here (omega arith)

      pub putting_stands : Standing s at e
      putting_stands = record {
        whole = is_whole;
        room = omega (arith, fits, fixes_length p.put);
        short = short_enough;
        same =
            ap (λ (x : List ℕ). take (4 + length_at s at) (drop at x)) p.put.copy
            ∙ ap (take (4 + length_at s at)) (drop_sets d 8 p.done at (omega (arith, p.ends)))
            ∙ sym (part_take (4 + length_at s at) at (length s) d (omega (arith, is_whole)))
            ∙ ap (λ (x : List ℕ). take (4 + length_at s at) (drop at x)) same;
      }

      pub putting_more : {f o : List ℕ} {r next : ℕ} → Fixes e m k at (bytes (mended_desc removable (desc_at s at))) r f o → next ≡ next_at s at → Putting f o r next
      unfolding mended_descs flat
      putting_more {f} {o} {r} {next} w q =
          let x : List ℕ = bytes (mended_desc removable (desc_at s at)) in
          let lx : length x ≡ 4 + length_at s at = size_kept removable (desc_at s at) ∙ length_desc_at s at is_whole in
          let z : next ≡ at + 4 + length_at s at = next_is s at next (omega arith) q in
          record {
            here = here_next s at p.here (omega arith) next q;
            done = p.done ++ x;
            ends = omega (arith, length-append p.done x, lx, z, p.ends);
            put = fixes_then p.done x (omega (arith, p.ends, lx, is_whole, fits)) p.put (subst (λ (i : ℕ). Fixes e m k i x r f o) (sym p.ends) w);
            all =
                append_assoc p.done x (flat bytes (mended_descs removable (from s next)))
                ∙ sym (ap (λ (ds : List Desc). p.done ++ flat bytes (mended_descs removable ds)) (from_step s at (omega arith) ∙ ap (λ (i : ℕ). desc_at s at ∷ from s i) (sym q)))
                ∙ p.all;
          }

    pub putting_end : length s < at + 4 → Fixes d l 0 8 (flat bytes (mended_descs removable (descs s))) k e m
    unfolding mended_descs flat
    putting_end h =
        let z : p.done ≡ flat bytes (mended_descs removable (descs s)) =
        sym (append-nil p.done) ∙ sym (ap (λ (ds : List Desc). p.done ++ flat bytes (mended_descs removable ds)) (from_end s at (here_end s at p.here h))) ∙ p.all in
        subst (λ (x : List ℕ). Fixes d l 0 8 x k e m) z p.put
