-- Two runs of stores beside each other in one buffer: the contents and the bodies. Assumes nothing.
use mathlib.Core.Path.{◌≡◌, refl, sym, ap, subst, ◌∙◌}
use mathlib.Core.List.{List, [], ◌∷◌, ◌++◌, append_assoc}
use Prim.Native.Nat.{ℕ, suc, ◌+◌, ◌-◌, ◌*◌, ◌/◌, ◌≤◌, ◌<◌}
use native.Mathlib.Omega.{arith}
use lib.ListN.{length, take, drop, set, length-append}
use lib.Seq.{sets, set_comm, length-sets, take_at, take-take}
use Rattle.base.specs.Lists.{flat, Bytes}
use Rattle.fields.specs.Field.{spell}
use Rattle.fields.proofs.Laws.{length_spell}
use Rattle.lent.specs.Wrote.{Wrote}
use Rattle.lent.proofs.Sets.{sets_append}
use Rattle.lent.proofs.Laws.{then, kept}
use Rattle.text.specs.Drive.{Desc}
use Rattle.text.specs.Response.{bytes}
use Rattle.text.specs.Reading.{length_at, desc_at}
use Rattle.text.proofs.Again.{bytes_desc_at}
use Rattle.text.proofs.Received.{Stand, length_desc_at}
use Rattle.text.proofs.Sizes.{length_bytes}
use Rattle.reading.specs.Places.{next_at}
use Rattle.reading.specs.inner.Between.{from}
use Rattle.reading.proofs.At.{next_inside}
use Rattle.reading.proofs.Places.{from_step, from_end}
use Rattle.layout.specs.declared.Layout.TheVariants.{Rows}
use Rattle.layout.specs.Layout.{counts_bytes, profiles_behind}
use Rattle.layout.specs.Contents.{row_bytes, contents}
use Rattle.layout.proofs.Contents.{length_row, length_contents}
use Rattle.sheet.specs.Meaning.{entries_of}
use Rattle.sheet.specs.Meaning as sheet
use Rattle.sheet.proofs.Pieces.{length_entries}
use Rattle.capture.specs.inner.Behind.{behind}
use Rattle.import.specs.inner.Pieces.{row_at, rows, bodies, Standing, HasSpace, Filled, sheet_bytes, Whole}

-- ---- stores that do not meet

set_sets : (d : List ℕ) (i : ℕ) (xs : List ℕ) (j y : ℕ) → i + length xs ≤ j → set (sets d i xs) j y ≡ sets (set d j y) i xs
set_sets d i [] j y h = refl
set_sets d i (x ∷ xs) j y h =
    set_sets (set d i x) (suc i) xs j y (omega arith) ∙ ap (λ (l : List ℕ). sets l (suc i) xs) (set_comm d i j x y (λ e. omega arith))

sets_comm : (d : List ℕ) (i : ℕ) (xs : List ℕ) (j : ℕ) (ys : List ℕ) → i + length xs ≤ j → sets (sets d i xs) j ys ≡ sets (sets d j ys) i xs
sets_comm d i xs j [] h = refl
sets_comm d i xs j (y ∷ ys) h =
    ap (λ (l : List ℕ). sets l (suc j) ys) (set_sets d i xs j y h) ∙ sets_comm (set d j y) i xs (suc j) ys (omega arith)

-- a run that has room
wrote_sets : (d : List ℕ) (at : ℕ) (xs : List ℕ) (r : ℕ) → at + length xs ≤ length d → r ≡ at + length xs → Wrote d at xs r (sets d at xs)
wrote_sets d at xs r h e = record { next = omega arith; holds = refl }

-- one more at the front of each of two runs beside each other
two_runs : (d x xs y ys : List ℕ) (i j : ℕ) → i + length x + length xs ≤ j
    → sets (sets d i (x ++ xs)) j (y ++ ys) ≡ sets (sets (sets (sets d i x) j y) (i + length x) xs) (j + length y) ys
two_runs d x xs y ys i j h =
    ap (λ (l : List ℕ). sets l j (y ++ ys)) (sets_append d i x xs)
    ∙ sets_append (sets (sets d i x) (i + length x) xs) j y ys
    ∙ ap (λ (l : List ℕ). sets l (j + length y) ys) (sets_comm (sets d i x) (i + length x) xs j y h)

-- one descriptor more at the front of the rows
rows_step : (at : ℕ) (d : Desc) (ds : List Desc) → rows at (d ∷ ds) ≡ row_at at d ++ rows (at + length d.body) ds
unfolding contents entries_of flat
rows_step at d ds = refl

length_rows : (at : ℕ) (ds : List Desc) → length (rows at ds) ≡ 8 * length ds
length_rows at ds = length_contents Rows (entries_of at ds) ∙ ap (λ (k : ℕ). 8 * k) (length_entries at ds)

-- ---- a descriptor that is whole

pub body_length_law : (s : List ℕ) (at : ℕ) → at + 4 + length_at s at ≤ length s → length (desc_at s at).body ≡ length_at s at
body_length_law s at h = omega (arith, length_desc_at s at h, length_bytes (desc_at s at))

-- its entry starts with its header bytes
pub entry_head : (s : List ℕ) (at offset : ℕ) → Bytes s → at + 4 + length_at s at ≤ length s → row_at offset (desc_at s at) ≡ take (at + 4 - at) (drop at s) ++ spell 4 offset
unfolding bytes row_bytes
entry_head s at offset bs h =
    let x : Desc = desc_at s at in
    let n : at + 4 - at ≡ 4 = omega arith in
    let head : List ℕ = spell 2 x.number ++ (x.flags ∷ length x.body ∷ []) in
    let l : length head ≡ 4 = length-append (spell 2 x.number) (x.flags ∷ length x.body ∷ []) ∙ rw (length_spell 2 x.number) in
    let e : head ≡ take 4 (drop at s) =
    sym (take_at head x.body 4 l) ∙ ap (take 4) (bytes_desc_at s at bs h) ∙ take-take 4 (4 + length_at s at) (drop at s) (omega arith) in
    ap (λ (k : List ℕ). k ++ spell 4 offset) (append_assoc (spell 2 x.number) (x.flags ∷ []) (length x.body ∷ []) ∙ e)
    ∙ ap (λ (k : ℕ). take k (drop at s) ++ spell 4 offset) (sym n)

-- its body is what stands behind them
pub body_part : (s : List ℕ) (at len : ℕ) → len ≡ length_at s at → (desc_at s at).body ≡ take len (drop (at + 4) s)
unfolding desc_at
body_part s at len e = ap (λ (k : ℕ). take k (drop (at + 4) s)) (sym e)

pub body_none : (s : List ℕ) (at len : ℕ) → len ≡ length_at s at → len ≡ 0 → (desc_at s at).body ≡ []
unfolding desc_at
body_none s at len e z = ap (λ (k : ℕ). take k (drop (at + 4) s)) (sym e ∙ z)

-- the descriptors of a walk
pub all_standing : (s : List ℕ) (at : ℕ) (ds : List Desc) → Stand s at ds → Standing s at ds
all_standing s at [] h = tt
all_standing s at (d ∷ ds) h = (h.1, all_standing s (at + 4 + length_at s at) ds h.2)

-- ---- the loop: what the buffer holds in the end, told by what it holds now

pub record Passed (s : List ℕ) (r : ℕ) (f : List ℕ) (entry next place : ℕ) (d : List ℕ) : Type 0 where
  pub fits : HasSpace s entry next place d
  pub filled : Filled s entry next place d r f

module _ {s : List ℕ} {entry next place : ℕ} {d : List ℕ} where
  pub passed_start : HasSpace s entry next place d
      → Passed s (next + length (bodies (from s place))) (sets (sets d entry (rows next (from s place))) next (bodies (from s place))) entry next place d
  passed_start h = record { fits = h; filled = record { next = refl; holds = refl } }

  pub passed_end : {r : ℕ} {f : List ℕ} → Passed s r f entry next place d → length s ≤ place → (next ≡ r) × (d ≡ f)
  unfolding contents entries_of flat
  passed_end p h =
      let e : from s place ≡ [] = from_end s place h in
      (sym (p.filled.next ∙ rw e (omega arith)), sym (p.filled.holds ∙ rw e))

module _ {s : List ℕ} {r : ℕ} {f : List ℕ} {entry next place : ℕ} {d : List ℕ} (p : Passed s r f entry next place d) (h : place < length s) where
  there : from s place ≡ desc_at s place ∷ from s (next_at s place)
  there = from_step s place h

  -- what a turn asks for: a whole descriptor, and room for its entry and its body
  pub here_whole : place + 4 + length_at s place ≤ length s
  here_whole = (rw there at p.fits.whole).0

  here_sizes : (entry + 8 ≤ next) × (next + length_at s place ≤ length d)
  unfolding flat
  here_sizes =
      let ds : List Desc = from s (next_at s place) in
      let l : length (bodies (desc_at s place ∷ ds)) ≡ length (desc_at s place).body + length (bodies ds) = length-append (desc_at s place).body (bodies ds) in
      let apart : entry + 8 * suc (length ds) ≤ next = rw there at p.fits.apart in
      let room : next + length (bodies (desc_at s place ∷ ds)) ≤ length d = rw there at p.fits.room in
      (omega arith, omega (arith, body_length_law s place here_whole))

  pub here_entry : entry + 8 ≤ length d
  here_entry = omega (arith, here_sizes)

  pub here_body : {entry' : ℕ} {d' xs : List ℕ} → Wrote d entry xs entry' d' → next + length_at s place ≤ length d'
  here_body v = omega (arith, here_sizes, kept v)

  pub passed_more : {entry' next' place' : ℕ} {d' d'' : List ℕ}
      → Wrote d entry (row_at next (desc_at s place)) entry' d' → Wrote d' next (desc_at s place).body next' d'' → place' ≡ place + 4 + length_at s place
      → Passed s r f entry' next' place' d''
  unfolding flat
  passed_more {entry'} {next'} {place'} {d'} {d''} v w n =
      let x : Desc = desc_at s place in
      let ds : List Desc = from s place' in
      let e : from s place ≡ x ∷ ds = there ∙ ap (λ (k : ℕ). x ∷ from s k) (sym (n ∙ next_inside s place (length_at s place) h refl)) in
      let m : length (row_at next x) ≡ 8 = length_row (sheet.entry next x) in
      let lc : length (rows (next + length x.body) ds) ≡ 8 * length ds = length_rows (next + length x.body) ds in
      let l : length (bodies (x ∷ ds)) ≡ length x.body + length (bodies ds) = length-append x.body (bodies ds) in
      let apart : entry + 8 * suc (length ds) ≤ next = rw e at p.fits.apart in
      let room : next + length (bodies (x ∷ ds)) ≤ length d = rw e at p.fits.room in
      let low : next + length (bodies (x ∷ ds)) < 4294967296 = rw e at p.fits.low in
      let all : r ≡ next + length (bodies (x ∷ ds)) = rw e at p.filled.next in
      let k : length d'' ≡ length d = kept w ∙ kept v in
      let a : entry' ≡ entry + length (row_at next x) = omega (arith, v.next) in
      let c : next' ≡ next + length x.body = omega (arith, w.next, kept v) in
      record {
        fits = record { whole = subst (λ (k : ℕ). Standing s k ds) (sym n) (rw e at p.fits.whole).1; apart = omega arith; room = omega arith; low = omega arith };
        filled = record {
          next = omega arith;
          holds =
              p.filled.holds
              ∙ ap (λ (l : List Desc). sets (sets d entry (rows next l)) next (bodies l)) e
              ∙ ap (λ (l : List ℕ). sets (sets d entry l) next (bodies (x ∷ ds))) (rows_step next x ds)
              ∙ two_runs d (row_at next x) (rows (next + length x.body) ds) x.body (bodies ds) entry next (omega arith)
              ∙ rw (w.holds, v.holds, a, c);
        };
      }

-- ---- the whole sheet

length_counts : (n p : ℕ) → length (counts_bytes n p) ≡ 4
length_counts n p = simp (length-append, length_spell)

pub length_sheet_bytes : (b : List ℕ) (ds : List Desc) → length (sheet_bytes b ds) ≡ 4 + 8 * length ds + length b + length (bodies ds)
unfolding sheet_bytes
length_sheet_bytes b ds = simp (length-append, length_spell, length_rows) (omega arith)

module _ {s : List ℕ} {n : ℕ} {d : List ℕ} (w : Whole s n d) where
  -- its pieces, each in its turn: the counts, the profile list, then contents and bodies
  module _ {entries body at : ℕ} {d₁ d₂ b : List ℕ} (q : b ≡ (desc_at s 8).body) (v₁ : Wrote d 0 (counts_bytes n (length b / 4)) entries d₁) (p : at ≡ profiles_behind n)
      (v₂ : Wrote d₁ at b body d₂) where
    sizes : length (sheet_bytes (desc_at s 8).body (behind s)) ≡ 4 + 8 * n + length b + length (bodies (behind s))
    sizes = length_sheet_bytes (desc_at s 8).body (behind s) ∙ rw (q, w.count)

    entries_at : entries ≡ 4
    entries_at = omega (arith, v₁.next, length_counts n (length b / 4), sizes, w.room)

    body_at : body ≡ 4 + 8 * n + length b
    body_at = omega (arith, v₂.next, p, kept v₁, sizes, w.room)

    pub whole_fits : {first : ℕ} → first ≡ next_at s 8 → HasSpace s entries body first d₂
    whole_fits {first} f = record {
      whole = rw f w.whole;
      apart = rw f (omega (arith, entries_at, body_at, w.count));
      room = rw f (omega (arith, body_at, sizes, w.room, kept v₁, kept v₂));
      low = rw f (omega (arith, body_at, sizes, w.low));
    }

    pub whole_written : {first r : ℕ} {e : List ℕ} → first ≡ next_at s 8 → Filled s entries body first d₂ r e → Wrote d 0 (sheet_bytes (desc_at s 8).body (behind s)) r e
    unfolding sheet_bytes
    whole_written {first} {r} {e} f g =
        let ds : List Desc = behind s in
        let c : List ℕ = rows body ds in
        let lc : length c ≡ 8 * length ds = length_rows body ds in
        let room : 4 + 8 * n + length b + length (bodies ds) ≤ length d = omega (arith, sizes, w.room) in
        let k : length d₁ ≡ length d = kept v₁ in
        let w₁ : Wrote d₁ entries c at (sets d₁ entries c) = wrote_sets d₁ entries c at (omega (arith, entries_at, w.count)) (omega (arith, p, entries_at, w.count)) in
        let w₂ : Wrote (sets d₁ entries c) at b body (sets (sets d₁ entries c) at b) =
        wrote_sets (sets d₁ entries c) at b body (omega (arith, p, length-sets d₁ entries c)) (omega (arith, p, body_at)) in
        let m : sets (sets d₁ entries c) at b ≡ sets d₂ entries c =
        sets_comm d₁ entries c at b (omega (arith, p, entries_at, w.count)) ∙ ap (λ (l : List ℕ). sets l entries c) (sym v₂.holds) in
        let w₃ : Wrote (sets d₂ entries c) body (bodies ds) r (sets (sets d₂ entries c) body (bodies ds)) =
        wrote_sets (sets d₂ entries c) body (bodies ds) r (omega (arith, body_at, length-sets d₂ entries c, kept v₂)) (rw f at g.next) in
        rw (← q, ← w.count, ← body_at, rw f at g.holds) (then (then (then v₁ w₁) (rw m at w₂)) w₃)
