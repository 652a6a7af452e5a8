-- What is read where contents were written, and contents written from what was read: with Laws and Heads the only laws that know the layouts. Assumes nothing.
use mathlib.Core.Path.{◌≡◌, refl, sym, ap, ◌∙◌}
use mathlib.Core.List.{List, [], ◌∷◌, ◌++◌, append_assoc, append-nil}
use Prim.Native.Nat.{ℕ, zero, suc, ◌+◌, ◌*◌, ◌≤◌, ◌<◌}
use native.Mathlib.Nat.{add_assoc, zero-add}
use native.Mathlib.Numerals.{add-one}
use native.Mathlib.Omega.{arith}
use lib.ListN.{length, get_or, take, drop, length-append}
use lib.Seq.{length-take-le, drop-cons}
use Rattle.base.specs.Lists.{each, flat, Bytes, All}
use Rattle.base.proofs.Lists.{bytes_one, bytes_append, bytes_flat, all_map, length_flat, drop_flat, flat_append, each_snoc, drop_behind, drop_inside, take_more, take_row}
use Rattle.fields.specs.Field.{field, spell}
use Rattle.fields.proofs.Laws.{length_spell, bytes_spell, field_here, byte_here, spell_field}
use Rattle.layout.specs.declared.Layout.{Layout}
use Rattle.layout.specs.declared.Layout.TheVariants.{Rows, Columns}
use Rattle.layout.specs.declared.Entry.{Entry}
use Rattle.layout.specs.Layout.{Sheet, sheet_size, feature_count, profiles_at, number_place, flags_place, length_place, offset_place, number, flags, body_length, offset}
use Rattle.layout.specs.Contents.{entry_of, number_bytes, flags_byte, length_byte, offset_bytes, row_bytes, contents, entries, Fits}

-- ---- lengths

pub length_row : (e : Entry) → length (row_bytes e) ≡ 8
unfolding row_bytes
length_row e = simp (length-append, length_spell)

length_numbers : (es : List Entry) → length (flat number_bytes es) ≡ 2 * length es
length_numbers es = length_flat number_bytes 2 (λ e. length_spell 2 e.number.0) es

length_flags : (es : List Entry) → length (flat flags_byte es) ≡ 1 * length es
length_flags es = length_flat flags_byte 1 (λ e. refl) es

length_lengths : (es : List Entry) → length (flat length_byte es) ≡ 1 * length es
length_lengths es = length_flat length_byte 1 (λ e. refl) es

length_offsets : (es : List Entry) → length (flat offset_bytes es) ≡ 4 * length es
length_offsets es = length_flat offset_bytes 4 (λ e. length_spell 4 e.offset) es

pub length_contents : (l : Layout) (es : List Entry) → length (contents l es) ≡ 8 * length es
unfolding contents
length_contents Rows es = length_flat row_bytes 8 length_row es
length_contents Columns es =
    simp length-append (omega (arith, length_numbers es, length_flags es, length_lengths es, length_offsets es))

-- ---- bytes

bytes_row : (e : Entry) → Fits e → Bytes (row_bytes e)
unfolding row_bytes
bytes_row e f =
    let a : Bytes (flags_byte e) = bytes_one e.flags.0 f.flags_fits in
    let b : Bytes (length_byte e) = bytes_one e.length f.length_fits in
    search (bytes_append, bytes_spell, a, b)

-- a column of bytes
bytes_column : (g : Entry → List ℕ) → ((e : Entry) → Fits e → Bytes (g e)) → (es : List Entry) → All Fits es → Bytes (flat g es)
bytes_column g h es f = bytes_flat g es (all_map Fits (λ (e : Entry). Bytes (g e)) h es f)

pub bytes_contents : (l : Layout) (es : List Entry) → All Fits es → Bytes (contents l es)
unfolding contents
bytes_contents Rows es f = bytes_column row_bytes bytes_row es f
bytes_contents Columns es f =
    let a : Bytes (flat number_bytes es) = bytes_column number_bytes (λ e g. bytes_spell 2 e.number.0) es f in
    let b : Bytes (flat flags_byte es) = bytes_column flags_byte (λ e g. bytes_one e.flags.0 g.flags_fits) es f in
    let c : Bytes (flat length_byte es) = bytes_column length_byte (λ e g. bytes_one e.length g.length_fits) es f in
    let d : Bytes (flat offset_bytes es) = bytes_column offset_bytes (λ e g. bytes_spell 4 e.offset) es f in
    search (bytes_append, a, b, c, d)

-- ---- reading what was written

-- piece i of pieces of width w
at_piece : (w : ℕ) (g : Entry → List ℕ) → ((e : Entry) → length (g e) ≡ w) → (b : List ℕ) (p : ℕ) (es : List Entry) (rest : List ℕ) (z : Entry) (i : ℕ)
    → drop p b ≡ flat g es ++ rest → i < length es → w * i ≤ w * length es → drop (p + w * i) b ≡ g (get_or es i z) ++ (flat g (drop (suc i) es) ++ rest)
at_piece w g h b p es rest z i e l m =
    let x : length (flat g (take i es)) ≡ w * i =
    length_flat g w h (take i es) ∙ ap (λ (k : ℕ). w * k) (length-take-le i es (omega arith)) in
    drop_inside b p (flat g es) rest (w * i) (g (get_or es i z)) _ e (omega (arith, length_flat g w h es)) (rw x at (drop_flat g es z i l))

record Reads (l : Layout) (b : List ℕ) (n i : ℕ) (e : Entry) : Type 0 where
  number_is : field 2 b (number_place l n i) ≡ e.number.0
  flags_is : get_or b (flags_place l n i) 0 ≡ e.flags.0
  length_is : get_or b (length_place l n i) 0 ≡ e.length
  offset_is : field 4 b (offset_place l n i) ≡ e.offset

reads : (l : Layout) (b : List ℕ) (es : List Entry) (rest : List ℕ) (z : Entry) (i : ℕ)
    → drop 4 b ≡ contents l es ++ rest → i < length es → Fits (get_or es i z) → Reads l b (length es) i (get_or es i z)
unfolding contents row_bytes number_place flags_place length_place offset_place
reads Rows b es rest z i h l f =
    let e : Entry = get_or es i z in
    let a₀ = at_piece 8 row_bytes length_row b 4 es rest z i h l (omega arith) in
    let a : drop (4 + 8 * i) b ≡ number_bytes e ++ (e.flags.0 ∷ e.length ∷ (offset_bytes e ++ (flat row_bytes (drop (suc i) es) ++ rest))) = a₀ ∙ simp append_assoc in
    let c : drop (4 + 8 * i + 2) b ≡ e.flags.0 ∷ e.length ∷ (offset_bytes e ++ (flat row_bytes (drop (suc i) es) ++ rest)) = drop_behind b (4 + 8 * i) (number_bytes e) _ 2 a (length_spell 2 e.number.0) in
    let d : drop (4 + 8 * i + 3) b ≡ e.length ∷ (offset_bytes e ++ (flat row_bytes (drop (suc i) es) ++ rest)) = ap (λ (k : ℕ). drop k b) (sym (add_assoc (4 + 8 * i) 2 1)) ∙ drop_behind b (4 + 8 * i + 2) (flags_byte e) _ 1 c refl in
    let g : drop (4 + 8 * i + 4) b ≡ offset_bytes e ++ (flat row_bytes (drop (suc i) es) ++ rest) = ap (λ (k : ℕ). drop k b) (sym (add_assoc (4 + 8 * i) 3 1)) ∙ drop_behind b (4 + 8 * i + 3) (length_byte e) _ 1 d refl in
    record {
      number_is = field_here b (4 + 8 * i) 2 e.number.0 _ a f.number_fits;
      flags_is = byte_here b (4 + 8 * i + 2) _ _ c;
      length_is = byte_here b (4 + 8 * i + 3) _ _ d;
      offset_is = field_here b (4 + 8 * i + 4) 4 e.offset _ g f.offset_fits;
    }
reads Columns b es rest z i h l f =
    let e : Entry = get_or es i z in
    let a : drop 4 b ≡ flat number_bytes es ++ (flat flags_byte es ++ (flat length_byte es ++ (flat offset_bytes es ++ rest))) = h ∙ simp append_assoc in
    let c : drop (4 + 2 * length es) b ≡ flat flags_byte es ++ (flat length_byte es ++ (flat offset_bytes es ++ rest)) =
    drop_behind b 4 (flat number_bytes es) _ (2 * length es) a (length_numbers es) in
    let x : 4 + 3 * length es ≡ 4 + 2 * length es + 1 * length es = omega arith in
    let d : drop (4 + 3 * length es) b ≡ flat length_byte es ++ (flat offset_bytes es ++ rest) =
    ap (λ (k : ℕ). drop k b) x ∙ drop_behind b (4 + 2 * length es) (flat flags_byte es) _ (1 * length es) c (length_flags es) in
    let y : 4 + 4 * length es ≡ 4 + 3 * length es + 1 * length es = omega arith in
    let g : drop (4 + 4 * length es) b ≡ flat offset_bytes es ++ rest =
    ap (λ (k : ℕ). drop k b) y ∙ drop_behind b (4 + 3 * length es) (flat length_byte es) _ (1 * length es) d (length_lengths es) in
    let u : 4 + 2 * length es + i ≡ 4 + 2 * length es + 1 * i = omega arith in
    let v : 4 + 3 * length es + i ≡ 4 + 3 * length es + 1 * i = omega arith in
    record {
      number_is = field_here b (4 + 2 * i) 2 e.number.0 _ (at_piece 2 number_bytes (λ k. length_spell 2 k.number.0) b 4 es _ z i a l (omega arith)) f.number_fits;
      flags_is = ap (λ (k : ℕ). get_or b k 0) u ∙ byte_here b (4 + 2 * length es + 1 * i) _ _ (at_piece 1 flags_byte (λ k. refl) b (4 + 2 * length es) es _ z i c l (omega arith));
      length_is = ap (λ (k : ℕ). get_or b k 0) v ∙ byte_here b (4 + 3 * length es + 1 * i) _ _ (at_piece 1 length_byte (λ k. refl) b (4 + 3 * length es) es _ z i d l (omega arith));
      offset_is = field_here b (4 + 4 * length es + 4 * i) 4 e.offset _ (at_piece 4 offset_bytes (λ k. length_spell 4 k.offset) b (4 + 4 * length es) es rest z i g l (omega arith)) f.offset_fits;
    }

-- entry i of contents that were written is the entry that was written
pub entry_written : (s : Sheet) (es : List Entry) (rest : List ℕ) (z : Entry) (i : ℕ)
    → drop 4 s.bytes ≡ contents s.layout es ++ rest → feature_count s ≡ length es → i < length es → Fits (get_or es i z) → entry_of s i ≡ get_or es i z
unfolding entry_of number flags body_length offset
entry_written s es rest z i h c l f =
    let r : Reads s.layout s.bytes (feature_count s) i (get_or es i z) = rw c (reads s.layout s.bytes es rest z i h l f) in
    λ k. record { number = record { 0 = r.number_is k }; flags = record { 0 = r.flags_is k }; length = r.length_is k; offset = r.offset_is k }

-- ---- writing what was read

-- pieces of width w, read one after the other from p on
column_back : (w p : ℕ) (g : Entry → List ℕ) (f : ℕ → Entry) (b : List ℕ) (i k : ℕ)
    → ((j : ℕ) → i ≤ j → j < i + k → g (f j) ≡ take w (drop (p + w * j) b))
    → flat g (each f i k) ≡ take (w * k) (drop (p + w * i) b)
unfolding flat each
column_back w p g f b i zero h = ap (λ (k : ℕ). take k (drop (p + w * i) b)) {x = 0} {y = w * 0} (omega arith)
column_back w p g f b i (suc k) h =
    rw (column_back w p g f b (suc i) k (λ j l m. h j (omega arith) (omega arith)), h i (omega arith) (omega arith)) (take_row b p w i k)

byte_back : (b : List ℕ) (at : ℕ) → at < length b → get_or b at 0 ∷ [] ≡ take 1 (drop at b)
byte_back b at l = rw (drop-cons b at 0 l)

four_pieces : (b : List ℕ) (at : ℕ) → take 2 (drop at b) ++ take 1 (drop (at + 2) b) ++ take 1 (drop (at + 3) b) ++ take 4 (drop (at + 4) b) ≡ take 8 (drop at b)
four_pieces b at = rw (take_more b at 2 1, take_more b at 3 1, take_more b at 4 4)

row_back : (s : Sheet) (i : ℕ) → s.layout ≡ Rows → Bytes s.bytes → 4 + 8 * i + 8 ≤ sheet_size s → row_bytes (entry_of s i) ≡ take 8 (drop (4 + 8 * i) s.bytes)
unfolding row_bytes entry_of number flags body_length offset number_place flags_place length_place offset_place
row_back s i q b h =
    let a : spell 2 (field 2 s.bytes (4 + 8 * i)) ≡ take 2 (drop (4 + 8 * i) s.bytes) = spell_field 2 s.bytes (4 + 8 * i) b (omega arith) in
    let c : get_or s.bytes (4 + 8 * i + 2) 0 ∷ [] ≡ take 1 (drop (4 + 8 * i + 2) s.bytes) = byte_back s.bytes (4 + 8 * i + 2) (omega arith) in
    let d : get_or s.bytes (4 + 8 * i + 3) 0 ∷ [] ≡ take 1 (drop (4 + 8 * i + 3) s.bytes) = byte_back s.bytes (4 + 8 * i + 3) (omega arith) in
    let e : spell 4 (field 4 s.bytes (4 + 8 * i + 4)) ≡ take 4 (drop (4 + 8 * i + 4) s.bytes) = spell_field 4 s.bytes (4 + 8 * i + 4) b (omega arith) in
    rw (q, number_place, flags_place, length_place, offset_place) (rw (a, c, d, e) (four_pieces s.bytes (4 + 8 * i)))

four_columns : (b : List ℕ) (n : ℕ) → take (2 * n) (drop (4 + 2 * 0) b) ++ take (1 * n) (drop (4 + 2 * n + 1 * 0) b) ++ take (1 * n) (drop (4 + 3 * n + 1 * 0) b) ++ take (4 * n) (drop (4 + 4 * n + 4 * 0) b) ≡ take (8 * n) (drop 4 b)
four_columns b n =
    let x₀ : 4 + 2 * n + 1 * 0 ≡ 4 + 2 * n = omega arith in
    let x₁ : 4 + 3 * n + 1 * 0 ≡ 4 + 3 * n = omega arith in
    let x₂ : 4 + 4 * n + 4 * 0 ≡ 4 + 4 * n = omega arith in
    let x₃ : 2 * n + 1 * n ≡ 3 * n = omega arith in
    let x₄ : 3 * n + 1 * n ≡ 4 * n = omega arith in
    let x₅ : 4 * n + 4 * n ≡ 8 * n = omega arith in
    rw (x₀, x₁, x₂, take_more b 4 (2 * n) (1 * n), x₃, take_more b 4 (3 * n) (1 * n), x₄, take_more b 4 (4 * n) (4 * n), x₅)

columns_back : (s : Sheet) (n : ℕ) → s.layout ≡ Columns → Bytes s.bytes → feature_count s ≡ n → 4 + 8 * n ≤ sheet_size s
    → contents Columns (each (entry_of s) 0 n) ≡ take (8 * n) (drop 4 s.bytes)
unfolding contents entry_of number flags body_length offset number_place flags_place length_place offset_place
columns_back s n q b e h =
    let x : (j : ℕ) → 4 + 2 * n + j ≡ 4 + 2 * n + 1 * j = λ j. omega arith in
    let y : (j : ℕ) → 4 + 3 * n + j ≡ 4 + 3 * n + 1 * j = λ j. omega arith in
    let a : flat number_bytes (each (entry_of s) 0 n) ≡ take (2 * n) (drop (4 + 2 * 0) s.bytes) =
    column_back 2 4 number_bytes (entry_of s) s.bytes 0 n (λ j l m. rw (q, number_place) (spell_field 2 s.bytes (4 + 2 * j) b (omega arith))) in
    let c : flat flags_byte (each (entry_of s) 0 n) ≡ take (1 * n) (drop (4 + 2 * n + 1 * 0) s.bytes) =
    column_back 1 (4 + 2 * n) flags_byte (entry_of s) s.bytes 0 n (λ j l m. rw (q, flags_place, e, x j) (byte_back s.bytes (4 + 2 * n + 1 * j) (omega arith))) in
    let d : flat length_byte (each (entry_of s) 0 n) ≡ take (1 * n) (drop (4 + 3 * n + 1 * 0) s.bytes) =
    column_back 1 (4 + 3 * n) length_byte (entry_of s) s.bytes 0 n (λ j l m. rw (q, length_place, e, y j) (byte_back s.bytes (4 + 3 * n + 1 * j) (omega arith))) in
    let f : flat offset_bytes (each (entry_of s) 0 n) ≡ take (4 * n) (drop (4 + 4 * n + 4 * 0) s.bytes) =
    column_back 4 (4 + 4 * n) offset_bytes (entry_of s) s.bytes 0 n (λ j l m. rw (q, offset_place, e) (spell_field 4 s.bytes (4 + 4 * n + 4 * j) b (omega arith))) in
    rw (a, c, d, f) (four_columns s.bytes n)

rows_back : (s : Sheet) (n : ℕ) → s.layout ≡ Rows → Bytes s.bytes → 4 + 8 * n ≤ sheet_size s → contents Rows (each (entry_of s) 0 n) ≡ take (8 * n) (drop 4 s.bytes)
unfolding contents
rows_back s n q b h = column_back 8 4 row_bytes (entry_of s) s.bytes 0 n (λ j l m. row_back s j q b (omega arith))

-- the contents of a sheet that has them, written from its entries, are as they stand
back : (l : Layout) (s : Sheet) → s.layout ≡ l → Bytes s.bytes → profiles_at s ≤ sheet_size s → contents l (entries s) ≡ take (8 * feature_count s) (drop 4 s.bytes)
back Rows s q b h = rows_back s (feature_count s) q b h
back Columns s q b h = columns_back s (feature_count s) q b refl h

pub contents_back : (s : Sheet) → Bytes s.bytes → profiles_at s ≤ sheet_size s → contents s.layout (entries s) ≡ take (8 * feature_count s) (drop 4 s.bytes)
contents_back s b h = back s.layout s refl b h

-- ---- writing entry by entry

-- one more
pub pieces_more : (g : Entry → List ℕ) (f : ℕ → Entry) (i : ℕ) → flat g (each f 0 (i + 1)) ≡ flat g (each f 0 i) ++ g (f i)
unfolding flat
pieces_more g f i = rw (add-one, each_snoc f 0 i, flat_append g (each f 0 i) (f (0 + i) ∷ []), zero-add) (ap (λ (x : List ℕ). flat g (each f 0 i) ++ x) (append-nil (g (f i))))
