-- The entries of a sheet that is written, and what the fields of one read as. Assumes nothing.
use mathlib.Core.Path.{◌≡◌, refl, sym, ap, ◌∙◌}
use mathlib.Core.List.{List, [], ◌∷◌, ◌++◌}
use Prim.Native.Nat.{ℕ, zero, suc, ◌+◌, ◌<◌}
use native.Mathlib.Nat.{add-zero}
use native.Mathlib.Omega.{arith}
use lib.ListN.{length, take, get_or, length-append}
use Rattle.base.specs.Lists.{flat}
use Rattle.text.specs.Drive.{Desc}
use Rattle.layout.specs.declared.Entry.{Entry}
use Rattle.layout.specs.Layout.{Sheet, number, flags, body_length, offset}
use Rattle.layout.specs.Contents.{entry_of}
use Rattle.sheet.specs.Meaning.{entry, entries_of}

-- the body of a descriptor
abbrev pub body : Desc → List ℕ
body d = d.body

abbrev pub no_entry : Entry
no_entry = record { number = record { 0 = 0 }; flags = record { 0 = 0 }; length = 0; offset = 0 }

pub length_entries : (at : ℕ) (ds : List Desc) → length (entries_of at ds) ≡ length ds
unfolding entries_of
length_entries at [] = refl
length_entries at (d ∷ ds) = ap suc (length_entries (at + length d.body) ds)

-- entry i has the end of the bodies before it
pub get_d_entries : (at : ℕ) (ds : List Desc) (z : Desc) (i : ℕ) → i < length ds
    → get_or (entries_of at ds) i no_entry ≡ entry (at + length (flat body (take i ds))) (get_or ds i z)
unfolding entries_of flat
get_d_entries at [] z i l = absurd (omega arith)
get_d_entries at (d ∷ ds) z zero l = ap (λ (k : ℕ). entry k d) (sym (add-zero at))
get_d_entries at (d ∷ ds) z (suc i) l =
    get_d_entries (at + length d.body) ds z i (omega arith)
    ∙ ap (λ (k : ℕ). entry k (get_or ds i z)) {x = at + length d.body + length (flat body (take i ds))} {y = at + length (d.body ++ flat body (take i ds))} (omega (arith, length-append d.body (flat body (take i ds))))

-- the fields of an entry that is read
pub record EntryReads (s : Sheet) (i o : ℕ) (d : Desc) : Type 0 where
  pub number_is : number s i ≡ d.number
  pub flags_is : flags s i ≡ d.flags
  pub length_is : body_length s i ≡ length d.body
  pub offset_is : offset s i ≡ o

pub entry_reads : (s : Sheet) (i o : ℕ) (d : Desc) → entry_of s i ≡ entry o d → EntryReads s i o d
unfolding entry_of
entry_reads s i o d e = record {
  number_is = ap (λ (x : Entry). x.number.0) e;
  flags_is = ap (λ (x : Entry). x.flags.0) e;
  length_is = ap (λ (x : Entry). x.length) e;
  offset_is = ap (λ (x : Entry). x.offset) e;
}
