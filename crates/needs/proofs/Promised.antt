-- What a judgement of a profile says, in the paper's own numbers. It stands in this crate so that code, definition and laws that are changed together
-- are refused by it. Assumes nothing.
use borrow.Author.Tests.{ne_eqb, eq-eqb}
use mathlib.Core.Path.{◌≡◌, refl, sym, ap, subst, ◌∙◌}
use mathlib.Core.Logic.{◌⊎◌, inl, inr}
use mathlib.Core.Bool.{Bool, true, false}
use mathlib.Core.List.{List, [], ◌∷◌, ◌++◌, map}
use Prim.Native.Nat.{ℕ, zero, suc, ◌+◌, ◌-◌, ◌*◌, ◌/◌, ◌%◌, ◌^◌, ◌≤◌, ◌<◌}
use native.Mathlib.Nat.{mod-lt}
use native.Mathlib.Omega.{arith}
use lib.Bits.{bit_and, and_zero_r, and_high}
use lib.Dec.{eqb}
use lib.ListN.{length, get_or}
use lib.Pow.{pow-add, pow_pos}
use Rattle.base.specs.Lists.{All, keep}
use Rattle.base.specs.Pick.{pick, some}
use Rattle.base.proofs.Lists.{all_map, keep_yes, keep_no}
use Rattle.base.proofs.Pick.{pick_here, pick_past, pick_never}
use Rattle.fields.specs.Field.{spell}
use Rattle.refusal.specs.First.{refuse, accept}
use Rattle.text.specs.Drive.{Desc}
use Rattle.text.specs.Response.{bytes}
use Rattle.text.proofs.Sizes.{length_bytes}
use Rattle.reading.specs.Places.{descs}
use Rattle.reading.specs.Completed.{complete_fault}
use Rattle.needs.specs.declared.Wrong.{Wrong}
use Rattle.needs.specs.declared.Wrong.TheVariants.{Absent, TooShort, BitClear, NotCurrent, TooLong}
use Rattle.needs.specs.declared.table.Need.{Need}
use Rattle.needs.specs.declared.table.Column.{Column}
use Rattle.needs.specs.Required.{required, columns, column_of, marked}
use Rattle.needs.specs.Judge.{Said, says, says_conforms, says_broken, wrong_number, judged}
use Rattle.needs.proofs.Broken as lined
use Rattle.needs.proofs.Broken.{In, Gives, Reported}
use Rattle.needs.proofs.Judgements.{wrong_injective}
use Rattle.needs.proofs.Judged.{conforms_none, none_conforms, input_refuses, broken_lowest, broken_reason, archive_too, plain_too, untabled_forty, tabled_judged, judged_cases, Cased}

-- one element or more has P
abbrev pub Some : {A : Type 0} → (A → Type 0) → List A → Type 0
Some P [] = ⊥
Some P (x ∷ xs) = P x ⊎ Some P xs

-- ---- what the paper lists

-- a feature is needed; or one with a body of at least so many bytes and a bit set in byte 4 + place, counted from the descriptor's start; or a current one
pub data Wanted : Type 0 where
  there : (feature : ℕ) → Wanted
  with_bit : (feature least place bit : ℕ) → Wanted
  current : (feature : ℕ) → Wanted

abbrev pub feature_of : Wanted → ℕ
feature_of (there f) = f
feature_of (with_bit f least place bit) = f
feature_of (current f) = f

-- a profile, the most bytes that a descriptor may have, its header counted, and what the profile needs, ascending
pub record Table : Type 0 where
  pub profile : ℕ
  pub most : ℕ
  pub wanted : List Wanted

abbrev pub table : (profile most : ℕ) → List Wanted → Table
table p m ws = record { profile = p; most = m; wanted = ws }

abbrev pub needs : List ℕ → List Wanted
needs fs = map there fs

abbrev pub needs_bit : (feature least byte bit : ℕ) → List Wanted
needs_bit f least byte bit = with_bit f least (byte - 4) bit ∷ []

abbrev pub needs_current : ℕ → List Wanted
needs_current f = current f ∷ []

-- 002's Tables 62 and 58 to 61, and the archive subset. Additional Length is a byte, so that no descriptor has more than 259 bytes
unfoldable pub tables : List Table
tables =
    table 0xFFFF 259 (needs (0x0000 ∷ 0x0001 ∷ [])) ∷
    table 0x0002 259
    (needs (0x0000 ∷ 0x0001 ∷ 0x0002 ∷ 0x0003 ∷ []) ++ needs_bit 0x0010 8 10 0 ++ needs (0x0020 ∷ 0x0023 ∷ 0x0024 ∷ 0x0100 ∷ 0x0101 ∷ 0x0105 ∷ [])) ∷
    table 0x0008 259 (needs (0x0000 ∷ 0x0001 ∷ 0x0002 ∷ 0x0003 ∷ []) ++ needs_bit 0x0010 8 10 0 ++ needs (0x001E ∷ 0x0100 ∷ 0x0105 ∷ [])) ∷
    table 0x0010 259 (needs (0x0000 ∷ 0x0001 ∷ 0x0002 ∷ 0x0003 ∷ []) ++ needs_bit 0x0010 8 10 0 ++ needs (0x001F ∷ 0x0100 ∷ 0x0105 ∷ 0x0107 ∷ [])) ∷
    table 0x0012 259
    (needs (0x0000 ∷ 0x0001 ∷ 0x0002 ∷ 0x0003 ∷ []) ++ needs_bit 0x0010 8 10 0
    ++ needs (0x001F ∷ 0x0020 ∷ 0x0023 ∷ 0x0024 ∷ 0x0100 ∷ 0x0101 ∷ 0x0105 ∷ 0x0107 ∷ [])) ∷
    table 0x0000 36
    (needs (0x0000 ∷ 0x0001 ∷ 0x0002 ∷ []) ++ needs_bit 0x0003 4 4 0 ++ needs_bit 0x0010 8 10 0 ++ needs (0x001F ∷ []) ++ needs_current 0x0020
    ++ needs (0x0023 ∷ []) ++ needs_current 0x0024 ++ needs (0x0100 ∷ 0x0101 ∷ 0x0105 ∷ 0x0107 ∷ [])) ∷ []

-- ---- what breaks a profile

-- a descriptor is what is wanted
abbrev pub Counts : Wanted → Desc → Type 0
Counts (there f) d = d.number ≡ f
Counts (with_bit f least place bit) d = (d.number ≡ f) × (least ≤ length d.body) × (get_or (bytes d) (4 + place) 0 / 2 ^ bit % 2 ≡ 1)
Counts (current f) d = (d.number ≡ f) × (d.flags % 2 ≡ 1)

-- the feature is wanted, and no descriptor is what is wanted; or a descriptor of its number, wanted or not, has too many bytes
abbrev pub Breaks : Table → List Desc → (feature : ℕ) → Type 0
Breaks t ds f =
    Some (λ (w : Wanted). (feature_of w ≡ f) × (Some (Counts w) ds → ⊥)) t.wanted ⊎ Some (λ (d : Desc). (d.number ≡ f) × (t.most < length (bytes d))) ds

-- a descriptor is too short for what is wanted; its bit is 0; it is not current
abbrev pub Short : Wanted → Desc → Type 0
Short (there f) d = ⊥
Short (with_bit f least place bit) d = length d.body < least
Short (current f) d = ⊥

abbrev pub Clear : Wanted → Desc → Type 0
Clear (there f) d = ⊥
Clear (with_bit f least place bit) d = get_or (bytes d) (4 + place) 0 / 2 ^ bit % 2 ≡ 0
Clear (current f) d = ⊥

abbrev pub Idle : Wanted → Desc → Type 0
Idle (there f) d = ⊥
Idle (with_bit f least place bit) d = ⊥
Idle (current f) d = d.flags % 2 ≡ 0

-- the feature is wanted and reported, and P of both
abbrev pub Pairs : (Wanted → Desc → Type 0) → Table → List Desc → (feature : ℕ) → Type 0
Pairs P t ds f = Some (λ (d : Desc). (d.number ≡ f) × Some (λ (w : Wanted). (feature_of w ≡ f) × P w d) t.wanted) ds

-- that this is wrong with the feature
abbrev pub Reason : Table → List Desc → (feature : ℕ) → Wrong → Type 0
Reason t ds f Absent = Some (λ (d : Desc). d.number ≡ f) ds → ⊥
Reason t ds f TooShort = Pairs Short t ds f
Reason t ds f BitClear = Pairs Clear t ds f
Reason t ds f NotCurrent = Pairs Idle t ds f
Reason t ds f TooLong = Some (λ (d : Desc). (d.number ≡ f) × (t.most < length (bytes d))) ds

-- ---- what is promised of what is said of the profile p and the response s, j

-- no feature, a number of two bytes, breaks the profile
abbrev pub Conforms : Table → List Desc → Type 0
Conforms t ds = (f : ℕ) → f < 65536 → Breaks t ds f → ⊥

-- the feature that is named breaks it, no lower one does, and what is said to be wrong with it is
pub record Names (t : Table) (ds : List Desc) (f : ℕ) (w : Wrong) : Type 0 where
  pub breaks : Breaks t ds f
  pub lower : (g : ℕ) → g < f → Breaks t ds g → ⊥
  pub reason : Reason t ds f w

pub record Judges (p : ℕ) (s : List ℕ) (j : Said) : Type 0 where
  pub exact : j ≡ judged p s
  -- the reading's numbers and 29 come first
  pub refuses : ((complete_fault s).number ≡ 0 → ⊥) → j ≡ says (complete_fault s) false [] 0
  -- then 40, exactly for a number that has no table
  pub no_table : (complete_fault s).number ≡ 0 → All (λ (t : Table). p ≡ t.profile → ⊥) tables → j ≡ says (refuse 40) false [] 0
  pub has_table_here : (complete_fault s).number ≡ 0 → Some (λ (t : Table). p ≡ t.profile) tables → j.refusal ≡ accept
  -- it conforms exactly if nothing breaks the profile; else the lowest feature that does is named, and what is wrong with it
  pub conforms : j ≡ says_conforms → All (λ (t : Table). p ≡ t.profile → Conforms t (descs s)) tables
  pub nothing : j.refusal ≡ accept → All (λ (t : Table). p ≡ t.profile → Conforms t (descs s) → j ≡ says_conforms) tables
  pub else : j.refusal ≡ accept → (j ≡ says_conforms) ⊎ Cased j
  pub names : (f : ℕ) (w : Wrong) → j ≡ says_broken f (wrong_number w) → All (λ (t : Table). p ≡ t.profile → Names t (descs s) f w) tables
  -- what conforms to the archive subset conforms to 0012h, and what conforms to any conforms to FFFFh
  pub archive : p ≡ 0x0000 → j ≡ says_conforms → judged 0x0012 s ≡ says_conforms
  pub plain : j ≡ says_conforms → judged 0xFFFF s ≡ says_conforms

-- ---- elements of a list

in_some : {A : Type 0} (P : A → Type 0) (xs : List A) (x : A) → In x xs → P x → Some P xs
in_some P [] x i p = absurd i
in_some P (y ∷ ys) x (inl e) p = inl (subst P e p)
in_some P (y ∷ ys) x (inr i) p = inr (in_some P ys x i p)

record One {A : Type 0} (P : A → Type 0) (xs : List A) : Type 0 where
  it : A
  listed : In it xs
  has : P it

some_one : {A : Type 0} (P : A → Type 0) (xs : List A) → Some P xs → One P xs
some_one P [] h = absurd h
some_one P (x ∷ xs) (inl p) = record { it = x; listed = inl refl; has = p }
some_one P (x ∷ xs) (inr h) = let o = some_one P xs h in record { it = o.it; listed = inr o.listed; has = o.has }

module _ {A : Type 0} (test : A → Bool) where
  in_keep : (xs : List A) (x : A) → In x xs → test x ≡ true → In x (keep test xs)
  in_keep [] x i e = absurd i
  in_keep (y ∷ ys) x (inl q) e = rw (keep_yes test y ys (subst (λ (z : A). test z ≡ true) q e)) (inl q)
  in_keep (y ∷ ys) x (inr i) e = go (test y) refl (in_keep ys x i e)
    where
      go : (b : Bool) → test y ≡ b → In x (keep test ys) → In x (keep test (y ∷ ys))
      go true t h = rw (keep_yes test y ys t) (inr h)
      go false t h = rw (keep_no test y ys t) h

  keep_in : (xs : List A) (x : A) → In x (keep test xs) → In x xs × (test x ≡ true)
  unfolding keep
  keep_in [] x i = absurd i
  keep_in (y ∷ ys) x i = go (test y) refl (keep_in ys x)
    where
      go : (b : Bool) → test y ≡ b → (In x (keep test ys) → In x ys × (test x ≡ true)) → In x (y ∷ ys) × (test x ≡ true)
      go true t h = here (subst (In x) (keep_yes test y ys t) i)
        where
          here : In x (y ∷ keep test ys) → In x (y ∷ ys) × (test x ≡ true)
          here (inl q) = (inl q, subst (λ (z : A). test z ≡ true) (sym q) t)
          here (inr k) = (inr (h k).0, (h k).1)
      go false t h = let k = h (subst (In x) (keep_no test y ys t) i) in (inr k.0, k.1)

module _ {A B : Type 0} (f : A → B) where
  in_map : (xs : List A) (x : A) → In x xs → In (f x) (map f xs)
  in_map [] x i = absurd i
  in_map (y ∷ ys) x (inl e) = inl (ap f e)
  in_map (y ∷ ys) x (inr i) = inr (in_map ys x i)

  map_in : (xs : List A) (y : B) → In y (map f xs) → One (λ (x : A). y ≡ f x) xs
  map_in [] y i = absurd i
  map_in (x ∷ xs) y (inl e) = record { it = x; listed = inl refl; has = e }
  map_in (x ∷ xs) y (inr i) = let o = map_in xs y i in record { it = o.it; listed = inr o.listed; has = o.has }

-- ---- the definition's lines are these

-- a line without its marks
bare : Need → Need
bare n = record { 0 = 0; 1 = n.1; 2 = n.2; 3 = n.3; 4 = n.4; 5 = n.5 }

line_of : Wanted → Need
line_of (there f) = record { 0 = 0; 1 = record { 0 = f }; 2 = 0; 3 = 0; 4 = 0; 5 = 0 }
line_of (with_bit f least place bit) = record { 0 = 0; 1 = record { 0 = f }; 2 = least; 3 = place; 4 = 2 ^ bit; 5 = 0 }
line_of (current f) = record { 0 = 0; 1 = record { 0 = f }; 2 = 0; 3 = 0; 4 = 0; 5 = 1 }

-- how long a descriptor may be, and what is wanted: of a profile, by its column, and of a table
record Listed : Type 0 where
  longest : ℕ
  lines : List Need

column_says : (profile : ℕ) → Listed
column_says p = record { longest = 4 + (column_of p).2; lines = map bare (keep (marked (column_of p).1) required) }

table_says : Table → Listed
table_says t = record { longest = t.most; lines = map line_of t.wanted }

-- the columns are the tables
lines_wanted : map (λ (t : Table). column_says t.profile) tables ≡ map table_says tables
unfolding tables column_of columns required marked pick keep bare line_of column_says table_says
lines_wanted = refl

-- a table says what the column of its profile says
record Same (t : Table) : Type 0 where
  most_is : 4 + (column_of t.profile).2 ≡ t.most
  lines_are : map bare (keep (marked (column_of t.profile).1) required) ≡ map line_of t.wanted

same_each : (ts : List Table) → map (λ (t : Table). column_says t.profile) ts ≡ map table_says ts → All Same ts
unfolding column_says table_says
same_each [] e = tt
same_each (t ∷ ts) e =
    let h : column_says t.profile ≡ table_says t = cc in
    let more : map (λ (t : Table). column_says t.profile) ts ≡ map table_says ts = cc in
    (record { most_is = ap (λ (l : Listed). l.longest) h; lines_are = ap (λ (l : Listed). l.lines) h }, same_each ts more)

-- ---- a line is met by what counts

body_byte : (d : Desc) (k : ℕ) → get_or (bytes d) (4 + k) 0 ≡ get_or d.body k 0
unfolding bytes spell
body_byte d k = ap (λ (n : ℕ). get_or (bytes d) n 0) {x = 4 + k} {y = suc (suc (suc (suc k)))} (omega arith)

-- what a mask of one bit leaves
bit_left : (x k : ℕ) → bit_and x (2 ^ k) ≡ x / 2 ^ k % 2 * 2 ^ k
bit_left x k =
    let e : 2 ^ (1 + k) - 2 ^ k ≡ 2 ^ k = omega (arith, pow-add 2 1 k) in
    ap (bit_and x) (sym e) ∙ and_high x 1 k

bit_kept : (x k : ℕ) → x / 2 ^ k % 2 ≡ 1 → bit_and x (2 ^ k) ≡ 2 ^ k
bit_kept x k e = bit_left x k ∙ ap (λ (v : ℕ). v * 2 ^ k) e ∙ omega arith

-- the bit is 1, or it is 0 and not what was asked for
bit_cases : (x k : ℕ) → (x / 2 ^ k % 2 ≡ 1) ⊎ (x / 2 ^ k % 2 ≡ 0)
bit_cases x k = go (x / 2 ^ k % 2) (mod-lt (x / 2 ^ k) (omega arith)) refl
  where
    go : (v : ℕ) → v < 2 → x / 2 ^ k % 2 ≡ v → (x / 2 ^ k % 2 ≡ 1) ⊎ (x / 2 ^ k % 2 ≡ 0)
    go zero l q = inr q
    go (suc zero) l q = inl q
    go (suc (suc v)) l q = absurd (omega arith)

bit_set : (x k : ℕ) → bit_and x (2 ^ k) ≡ 2 ^ k → x / 2 ^ k % 2 ≡ 1
bit_set x k e = go (bit_cases x k)
  where
    go : (x / 2 ^ k % 2 ≡ 1) ⊎ (x / 2 ^ k % 2 ≡ 0) → x / 2 ^ k % 2 ≡ 1
    go (inl q) = q
    go (inr q) = absurd (omega (arith, pow_pos k, sym e ∙ bit_left x k ∙ ap (λ (v : ℕ). v * 2 ^ k) q))

bit_clear : (x k : ℕ) → (bit_and x (2 ^ k) ≡ 2 ^ k → ⊥) → x / 2 ^ k % 2 ≡ 0
bit_clear x k h = go (bit_cases x k)
  where
    go : (x / 2 ^ k % 2 ≡ 1) ⊎ (x / 2 ^ k % 2 ≡ 0) → x / 2 ^ k % 2 ≡ 0
    go (inl q) = absurd (h (bit_kept x k q))
    go (inr q) = q

-- the lowest bit, Current
one_set : (x : ℕ) → bit_and x 1 ≡ 1 → x % 2 ≡ 1
one_set x e = omega (arith, bit_set x 0 e)

one_kept : (x : ℕ) → x % 2 ≡ 1 → bit_and x 1 ≡ 1
one_kept x e = bit_kept x 0 (omega arith)

one_clear : (x : ℕ) → (bit_and x 1 ≡ 1 → ⊥) → x % 2 ≡ 0
one_clear x h = omega (arith, bit_clear x 0 h)

module _ (d : Desc) where
  gives_counts : (w : Wanted) → Gives (line_of w) d → Counts w d
  unfolding line_of
  gives_counts (there f) g = g.names
  gives_counts (with_bit f least place bit) g = (g.names, g.enough, rw (body_byte d place) (bit_set _ bit g.bits))
  gives_counts (current f) g = (g.names, one_set d.flags g.flags)

  counts_gives : (w : Wanted) → Counts w d → Gives (line_of w) d
  unfolding line_of
  counts_gives (there f) c = record { names = c; enough = omega arith; bits = and_zero_r (get_or d.body 0 0); flags = and_zero_r d.flags }
  counts_gives (with_bit f least place bit) c =
      record { names = c.0; enough = c.1; bits = bit_kept (get_or d.body place 0) bit (rw (body_byte d place) at c.2); flags = and_zero_r d.flags }
  counts_gives (current f) c = record { names = c.0; enough = omega arith; bits = and_zero_r (get_or d.body 0 0); flags = one_kept d.flags c.1 }

  -- marks play no part
  bare_gives : (n : Need) → Gives n d → Gives (bare n) d
  unfolding bare
  bare_gives n g = record { names = g.names; enough = g.enough; bits = g.bits; flags = g.flags }

  gives_bare : (n : Need) → Gives (bare n) d → Gives n d
  unfolding bare
  gives_bare n g = record { names = g.names; enough = g.enough; bits = g.bits; flags = g.flags }

line_feature : (w : Wanted) → (line_of w).1.0 ≡ feature_of w
unfolding line_of
line_feature (there f) = refl
line_feature (with_bit f least place bit) = refl
line_feature (current f) = refl

-- what is wrong by a line is wrong by what is wanted
short : (n : Need) (w : Wanted) (d : Desc) → line_of w ≡ bare n → length d.body < n.2 → Short w d
unfolding line_of bare
short n (there g) d e l = absurd (omega (arith, ap (λ (x : Need). x.2) e, l))
short n (with_bit g least place bit) d e l = omega (arith, ap (λ (x : Need). x.2) e, l)
short n (current g) d e l = absurd (omega (arith, ap (λ (x : Need). x.2) e, l))

clear : (n : Need) (w : Wanted) (d : Desc) → line_of w ≡ bare n → (bit_and (get_or d.body n.3 0) n.4 ≡ n.4 → ⊥) → Clear w d
unfolding line_of bare
clear n (there g) d e h =
    absurd (subst (λ (x : Need). bit_and (get_or d.body x.3 0) x.4 ≡ x.4 → ⊥) (sym e) h (and_zero_r (get_or d.body 0 0)))
clear n (with_bit g least place bit) d e h =
    rw (body_byte d place) (bit_clear (get_or d.body place 0) bit (subst (λ (x : Need). bit_and (get_or d.body x.3 0) x.4 ≡ x.4 → ⊥) (sym e) h))
clear n (current g) d e h =
    absurd (subst (λ (x : Need). bit_and (get_or d.body x.3 0) x.4 ≡ x.4 → ⊥) (sym e) h (and_zero_r (get_or d.body 0 0)))

idle : (n : Need) (w : Wanted) (d : Desc) → line_of w ≡ bare n → (bit_and d.flags n.5 ≡ n.5 → ⊥) → Idle w d
unfolding line_of bare
idle n (there g) d e h = absurd (subst (λ (x : Need). bit_and d.flags x.5 ≡ x.5 → ⊥) (sym e) h (and_zero_r d.flags))
idle n (with_bit g least place bit) d e h = absurd (subst (λ (x : Need). bit_and d.flags x.5 ≡ x.5 → ⊥) (sym e) h (and_zero_r d.flags))
idle n (current g) d e h = one_clear d.flags (subst (λ (x : Need). bit_and d.flags x.5 ≡ x.5 → ⊥) (sym e) h)

-- ---- what breaks a column breaks its table, and the other way round

module _ (t : Table) (m : Same t) where
  abbrev c : Column
  c = column_of t.profile

  -- what is wanted, for a line of the column
  line_wanted : (n : Need) → In n required → marked c.1 n ≡ true → One (λ (w : Wanted). bare n ≡ line_of w) t.wanted
  line_wanted n i e = map_in line_of t.wanted (bare n) (subst (In (bare n)) m.lines_are (in_map bare (keep (marked c.1) required) n (in_keep (marked c.1) required n i e)))

  wanted_feature : (n : Need) (w : Wanted) → bare n ≡ line_of w → feature_of w ≡ n.1.0
  unfolding bare
  wanted_feature n w e = sym (line_feature w) ∙ sym (ap (λ (x : Need). x.1.0) e)

  -- a line of the column, for what is wanted
  wanted_line : (w : Wanted) → In w t.wanted → One (λ (n : Need). line_of w ≡ bare n) (keep (marked c.1) required)
  wanted_line w i = map_in bare (keep (marked c.1) required) (line_of w) (subst (In (line_of w)) (sym m.lines_are) (in_map line_of t.wanted w i))

  module _ (ds : List Desc) (f : ℕ) where
    long_of : lined.Overlong c ds f → Some (λ (d : Desc). (d.number ≡ f) × (t.most < length (bytes d))) ds
    long_of o = in_some _ ds o.desc o.reported (o.names, omega (arith, m.most_is, length_bytes o.desc, o.longer))

    breaks_of : lined.Breaks c ds f → Breaks t ds f
    breaks_of (inl u) =
        let o = line_wanted u.line u.asked.listed u.asked.stands in
        inl
        (in_some (λ (w : Wanted). (feature_of w ≡ f) × (Some (Counts w) ds → ⊥)) t.wanted o.it o.listed
        (wanted_feature u.line o.it o.has ∙ u.asked.names, λ h. none o.it o.has (some_one (Counts o.it) ds h)))
      where
        none : (w : Wanted) → bare u.line ≡ line_of w → One (Counts w) ds → ⊥
        none w e x = u.unmet x.it x.listed (gives_bare x.it u.line (subst (λ (n : Need). Gives n x.it) (sym e) (counts_gives x.it w x.has)))
    breaks_of (inr o) = inr (long_of o)

    of_breaks : Breaks t ds f → lined.Breaks c ds f
    of_breaks (inl h) = inl (unmet (some_one (λ (w : Wanted). (feature_of w ≡ f) × (Some (Counts w) ds → ⊥)) t.wanted h))
      where
        line : (w : Wanted) → feature_of w ≡ f → (Some (Counts w) ds → ⊥) → One (λ (n : Need). line_of w ≡ bare n) (keep (marked c.1) required) → lined.Unmet c ds f
        line w e k n =
            let i = keep_in (marked c.1) required n.it n.listed in
            record {
              line = n.it;
              asked = record { listed = i.0; stands = i.1; names = sym (wanted_feature n.it w (sym n.has)) ∙ e };
              unmet = λ d j g. k (in_some (Counts w) ds d j (gives_counts d w (subst (λ (x : Need). Gives x d) (sym n.has) (bare_gives d n.it g))));
            }

        unmet : One (λ (w : Wanted). (feature_of w ≡ f) × (Some (Counts w) ds → ⊥)) t.wanted → lined.Unmet c ds f
        unmet o = line o.it o.has.0 o.has.1 (wanted_line o.it o.listed)
    of_breaks (inr h) = inr (long (some_one (λ (d : Desc). (d.number ≡ f) × (t.most < length (bytes d))) ds h))
      where
        long : One (λ (d : Desc). (d.number ≡ f) × (t.most < length (bytes d))) ds → lined.Overlong c ds f
        long o = record { desc = o.it; reported = o.listed; names = o.has.0; longer = omega (arith, m.most_is, length_bytes o.it, o.has.1) }

    -- what is wrong, by line and by what is wanted
    pairs_of : (Q : Need → Desc → Type 0) (P : Wanted → Desc → Type 0) → ((n : Need) (w : Wanted) (d : Desc) → line_of w ≡ bare n → Q n d → P w d) → Reported c ds f Q → Pairs P t ds f
    pairs_of Q P h r =
        let o = line_wanted r.line r.asked.listed r.asked.stands in
        in_some (λ (d : Desc). (d.number ≡ f) × Some (λ (w : Wanted). (feature_of w ≡ f) × P w d) t.wanted) ds r.desc r.reported (
          r.names,
          in_some (λ (w : Wanted). (feature_of w ≡ f) × P w r.desc) t.wanted o.it o.listed
              (wanted_feature r.line o.it o.has ∙ r.asked.names, h r.line o.it r.desc (sym o.has) r.is),
        )

    reason_of_here : (w : Wrong) → lined.Reason c ds f w → Reason t ds f w
    reason_of_here Absent r = λ h. let o = some_one (λ (d : Desc). d.number ≡ f) ds h in r o.it o.listed o.has
    reason_of_here TooShort r = pairs_of (λ n d. length d.body < n.2) Short short r
    reason_of_here BitClear r = pairs_of (λ n d. bit_and (get_or d.body n.3 0) n.4 ≡ n.4 → ⊥) Clear clear r
    reason_of_here NotCurrent r = pairs_of (λ n d. bit_and d.flags n.5 ≡ n.5 → ⊥) Idle idle r
    reason_of_here TooLong r = long_of r

-- ---- the promise

-- what holds where a table says what its column says holds of each table
of_tables : (P : Table → Type 0) → ((t : Table) → Same t → P t) → All P tables
of_tables P h = all_map Same P h tables (same_each tables lines_wanted)

module _ (p : ℕ) (s : List ℕ) where
  tabled_some : Some (λ (t : Table). p ≡ t.profile) tables → some (λ n. eqb n p) lined.tabled ≡ true
  unfolding tables pick
  tabled_some h = go lined.tabled h
    where
      go : (ts : List ℕ) → Some (λ (n : ℕ). p ≡ n) ts → some (λ n. eqb n p) ts ≡ true
      go [] h = absurd h
      go (n ∷ ns) (inl e) = pick_here (λ n. eqb n p) _ _ n ns (eq-eqb n p (sym e))
      go (n ∷ ns) (inr h) = here (eqb n p) refl (go ns h)
        where
          here : (b : Bool) → eqb n p ≡ b → some (λ n. eqb n p) ns ≡ true → some (λ n. eqb n p) (n ∷ ns) ≡ true
          here true q r = pick_here (λ n. eqb n p) _ _ n ns q
          here false q r = pick_past (λ n. eqb n p) _ _ n ns q ∙ r

  has_no_table : All (λ (t : Table). p ≡ t.profile → ⊥) tables → some (λ n. eqb n p) lined.tabled ≡ false
  unfolding tables
  has_no_table h =
      pick_never (λ n. eqb n p) (λ n. true) false lined.tabled
      (all_map (λ (n : ℕ). p ≡ n → ⊥) (λ n. eqb n p ≡ false) (λ n k. ne_eqb n p (λ e. k (sym e))) lined.tabled h)

pub judges : (p : ℕ) (s : List ℕ) → Judges p s (judged p s)
judges p s = record {
  exact = refl;
  refuses = input_refuses p s;
  no_table = λ k h. untabled_forty p s k (has_no_table p s h);
  has_table_here = λ k h. tabled_judged p s k (tabled_some p s h);
  conforms = λ e.
      of_tables (λ t. p ≡ t.profile → Conforms t (descs s))
      (λ t m q f l b. conforms_none p s e f l (subst (λ (n : ℕ). lined.Breaks (column_of n) (descs s) f) (sym q) (of_breaks t m (descs s) f b)));
  nothing = λ k.
      of_tables (λ t. p ≡ t.profile → Conforms t (descs s) → judged p s ≡ says_conforms)
      (λ t m q h. none_conforms p s k (λ f l b. h f l (breaks_of t m (descs s) f (subst (λ (n : ℕ). lined.Breaks (column_of n) (descs s) f) q b))));
  else = judged_cases p s;
  names = λ f w e.
      of_tables (λ t. p ≡ t.profile → Names t (descs s) f w)
      (λ t m q. record {
        breaks = breaks_of t m (descs s) f (subst (λ (n : ℕ). lined.Breaks (column_of n) (descs s) f) q (broken_lowest p s f (wrong_number w) e).breaks);
        lower = λ g l b. (broken_lowest p s f (wrong_number w) e).lower g l (subst (λ (n : ℕ). lined.Breaks (column_of n) (descs s) g) (sym q) (of_breaks t m (descs s) g b));
        reason = reason_of_here t m (descs s) f w (subst (λ (n : ℕ). lined.Reason (column_of n) (descs s) f w) q (broken_reason p s f w e));
      });
  archive = λ q e. archive_too s (subst (λ (n : ℕ). judged n s ≡ says_conforms) q e);
  plain = plain_too s p;
}

-- ---- of the number n that tells what is wrong, w

-- the numbers of gcf.h
abbrev pub Told : Wrong → ℕ → Type 0
Told Absent n = n ≡ 1
Told TooShort n = n ≡ 2
Told BitClear n = n ≡ 3
Told NotCurrent n = n ≡ 4
Told TooLong n = n ≡ 5

pub record Tells (w : Wrong) (n : ℕ) : Type 0 where
  pub exact : n ≡ wrong_number w
  pub told : Told w n
  -- nothing else that can be wrong has it
  pub only : (v : Wrong) → wrong_number v ≡ n → v ≡ w

pub tells : (w : Wrong) → Tells w (wrong_number w)
tells w = record { exact = refl; told = told w; only = λ v e. wrong_injective v w e }
  where
    told : (w : Wrong) → Told w (wrong_number w)
    told Absent = refl
    told TooShort = refl
    told BitClear = refl
    told NotCurrent = refl
    told TooLong = refl
