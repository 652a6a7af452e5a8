-- Where the fields of a drive sheet stand, in plain numbers of its bytes: a definition that is wrong is refused here, whatever code and laws are changed with
-- it. Assumes nothing.
use mathlib.Core.Path.{◌≡◌, sym, ap, ◌∙◌}
use mathlib.Core.List.{List}
use Prim.Native.Nat.{ℕ, ◌+◌, ◌*◌, ◌<◌}
use native.Mathlib.Omega.{arith}
use lib.ListN.{take, drop}
use Rattle.fields.proofs.Laws.{field_take, field_drop, field_one}
use Rattle.text.proofs.Promised.{byte, two, four, field_two, field_four}
use Rattle.layout.specs.declared.Layout.TheVariants.{Rows, Columns}
use Rattle.layout.specs.Layout.{Sheet, stored, features, profiles, profiles_in, number_place, flags_place, length_place, offset_place, number, flags, body_length, offset}

-- the fields of entry i of the sheet s, which stand at these places of its bytes
pub record Fields (s : Sheet) (i number_at flags_at_fn length_at offset_at : ℕ) : Type 0 where
  pub numbered : number s i ≡ two s.bytes number_at
  pub flagged : flags s i ≡ byte s.bytes flags_at_fn
  pub long : body_length s i ≡ byte s.bytes length_at
  pub placed : offset s i ≡ four s.bytes offset_at

-- Of the bytes b of a sheet: the counts stand in bytes 0 to 3; in rows entry i has 8 bytes, number, flags, length and offset, from 4 + 8i on; in columns, of n
-- entries, all numbers stand from 4 on, all flags from 4 + 2n, all lengths from 4 + 3n, all offsets from 4 + 4n; profile i has 4 bytes, from 4 + 8n + 4i on
pub record Laying (b : List ℕ) : Type 0 where
  pub counted : features b ≡ two b 0
  pub listed : profiles b ≡ two b 2
  pub rows : (i : ℕ) → Fields (stored Rows b) i (4 + 8 * i) (6 + 8 * i) (7 + 8 * i) (8 + 8 * i)
  pub columns : (i : ℕ) → Fields (stored Columns b) i (4 + 2 * i) (4 + 2 * two b 0 + i) (4 + 3 * two b 0 + i) (4 + 4 * two b 0 + 4 * i)
  pub profile : (i k : ℕ) → i < two b 2 → k < 4 → byte (profiles_in b) (4 * i + k) ≡ byte b (4 + 8 * two b 0 + 4 * i + k)

row_fields : (b : List ℕ) (i : ℕ) → Fields (stored Rows b) i (4 + 8 * i) (6 + 8 * i) (7 + 8 * i) (8 + 8 * i)
unfolding number flags body_length offset number_place flags_place length_place offset_place
row_fields b i = record {
  numbered = field_two b (4 + 8 * i);
  flagged = ap (byte b) (omega arith);
  long = ap (byte b) (omega arith);
  placed = field_four b (4 + 8 * i + 4) ∙ ap (four b) (omega arith);
}

column_fields : (b : List ℕ) (i n : ℕ) → features b ≡ n → Fields (stored Columns b) i (4 + 2 * i) (4 + 2 * n + i) (4 + 3 * n + i) (4 + 4 * n + 4 * i)
unfolding number flags body_length offset number_place flags_place length_place offset_place
column_fields b i n e = record {
  numbered = field_two b (4 + 2 * i);
  flagged = ap (λ (n : ℕ). byte b (4 + 2 * n + i)) e;
  long = ap (λ (n : ℕ). byte b (4 + 3 * n + i)) e;
  placed = field_four b (4 + 4 * features b + 4 * i) ∙ ap (λ (n : ℕ). four b (4 + 4 * n + 4 * i)) e;
}

byte_part : (b : List ℕ) (n at j : ℕ) → j < n → byte (take n (drop at b)) j ≡ byte b (at + j)
byte_part b n at j l = sym (field_one (take n (drop at b)) j) ∙ field_take 1 n (drop at b) j (omega arith) ∙ field_drop 1 at b j ∙ field_one b (at + j)

pub laying : (b : List ℕ) → Laying b
unfolding features profiles profiles_in
laying b = record {
  counted = field_two b 0;
  listed = field_two b 2;
  rows = row_fields b;
  columns = λ i. column_fields b i (two b 0) (field_two b 0);
  profile = λ i k l m.
      byte_part b (4 * profiles b) (4 + 8 * features b) (4 * i + k) (omega (arith, field_two b 2))
      ∙ ap (byte b) (omega (arith, field_two b 0));
}
