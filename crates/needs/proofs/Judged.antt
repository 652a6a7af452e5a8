-- What a judgement tells: it conforms exactly if nothing breaks the profile, and the feature named is the lowest that does; which profile's needs are another's too;
-- and which numbers have a table. Assumes nothing.
use borrow.Author.Tests.{not-false}
use mathlib.Core.Path.{◌≡◌, refl, sym, ap, subst, ◌∙◌}
use mathlib.Core.Logic.{◌⊎◌, inl, inr}
use mathlib.Core.Bool.{Bool, true, false, not}
use mathlib.Core.List.{List, [], ◌∷◌}
use Prim.Native.Nat.{ℕ, zero, suc, ◌<◌}
use native.Mathlib.Omega.{arith}
use lib.Dec.{eqb}
use Rattle.base.specs.Lists.{All}
use Rattle.base.specs.Pick.{pick, some}
use Rattle.base.proofs.Pick.{pick_here, pick_past}
use Rattle.refusal.specs.declared.Refusal.{Refusal}
use Rattle.refusal.specs.First.{refuse, accept, unless}
use Rattle.refusal.proofs.First.{if_true, if_false, if_zero, or_else_none, or_else_zero, unless_none, unless_fault}
use Rattle.text.proofs.Received.{wholes_asc}
use Rattle.text.specs.Drive.{Desc}
use Rattle.reading.specs.Places.{descs}
use Rattle.reading.specs.Completed.{complete_fault}
use Rattle.needs.specs.declared.Wrong.{Wrong}
use Rattle.needs.specs.declared.Wrong.TheVariants.{Absent, TooShort, BitClear, NotCurrent, TooLong}
use Rattle.needs.specs.declared.Judgement.TheVariants.{Refused}
use Rattle.needs.specs.declared.table.Column.{Column}
use Rattle.needs.specs.declared.table.Need.{Need}
use Rattle.needs.specs.Required.{required, columns, column_of, no_column, has_table, marked}
use Rattle.needs.specs.Judge.{Said, says_conforms, says_broken, says, said, wrong_number, line_wrong, desc_wrong, wrong_of, wrong_in, lowest_from, lowest_in, lowest, judge_fault, judged}
use Rattle.needs.proofs.Broken.{tabled, Breaks, Reason}
use Rattle.needs.proofs.Rules.{every_all, chosen_case}
use Rattle.needs.proofs.Covered.{covers_plain}
use Rattle.needs.proofs.Lowest.{lowest_upto, none_lowest, found_lowest}
use Rattle.needs.proofs.Judgements.{column_ascends, judge_input}
use Rattle.needs.proofs.Breaks.{wrong_breaks, breaks_wrong, wrong_reason, covers, breaks_covered}

-- an answer without a number: nothing was refused before it
pub unrefused : (r : Refusal) (next x : Said) → unless r (λ (q : Refusal). said (Refused q)) next ≡ x → x.refusal.number ≡ 0 → r.number ≡ 0
unrefused r next x e k = go r.number refl
  where
    go : (n : ℕ) → r.number ≡ n → r.number ≡ 0
    go zero h = h
    go (suc n) h = ap (λ (y : Said). y.refusal.number) (sym (unless_fault r (λ (q : Refusal). said (Refused q)) next (λ z. omega arith)) ∙ e) ∙ k

module _ (p : ℕ) (s : List ℕ) where
  -- it is the lowest that breaks the profile
  fault_none : (x : Said) → judged p s ≡ x → x.refusal.number ≡ 0 → (judge_fault p s).number ≡ 0
  unfolding judged
  fault_none = unrefused (judge_fault p s) (lowest (column_of p) (descs s))

  judged_lowest : (x : Said) → judged p s ≡ x → x.refusal.number ≡ 0 → lowest (column_of p) (descs s) ≡ x
  unfolding judged
  judged_lowest x e k = sym (unless_none (judge_fault p s) _ _ (fault_none x e k)) ∙ e

  -- it conforms: nothing breaks the profile
  pub conforms_none : judged p s ≡ says_conforms → (f : ℕ) → f < 65536 → Breaks (column_of p) (descs s) f → ⊥
  unfolding lowest lowest_in
  conforms_none e f l b =
      breaks_wrong (column_of p) 0 (descs s) (column_ascends p) (wholes_asc 65534 0 0 s) f b
      (none_lowest (wrong_in required (column_of p) (descs s)) 0 65536 (judged_lowest says_conforms e refl) f (omega arith) l)

  -- and the other way round
  pub none_conforms : (judged p s).refusal ≡ accept → ((f : ℕ) → f < 65536 → Breaks (column_of p) (descs s) f → ⊥) → judged p s ≡ says_conforms
  unfolding judged lowest lowest_in
  none_conforms k h =
      unless_none (judge_fault p s) _ _ (fault_none (judged p s) refl (ap (λ (r : Refusal). r.number) k))
      ∙ lowest_upto (wrong_in required (column_of p) (descs s)) 0 65536
      (λ f l m. not_wrong f (h f (omega arith)))
    where
      not_wrong : (f : ℕ) → (Breaks (column_of p) (descs s) f → ⊥) → wrong_in required (column_of p) (descs s) f ≡ 0
      not_wrong f h = go (wrong_in required (column_of p) (descs s) f) refl
        where
          go : (n : ℕ) → wrong_in required (column_of p) (descs s) f ≡ n → wrong_in required (column_of p) (descs s) f ≡ 0
          go zero e = e
          go (suc n) e = absurd (h (wrong_breaks (column_of p) 0 (descs s) (column_ascends p) (wholes_asc 65534 0 0 s) f (λ z. omega arith)))

  -- a feature is named: it breaks the profile, and no lower one does
  pub record Named (f : ℕ) : Type 0 where
    pub breaks : Breaks (column_of p) (descs s) f
    pub lower : (g : ℕ) → g < f → Breaks (column_of p) (descs s) g → ⊥

  pub broken_lowest : (f w : ℕ) → judged p s ≡ says_broken f w → Named f
  unfolding lowest lowest_in
  broken_lowest f w e =
      let o = found_lowest (wrong_in required (column_of p) (descs s)) 0 65536 f w (judged_lowest (says_broken f w) e refl) in
      record {
        breaks = wrong_breaks (column_of p) 0 (descs s) (column_ascends p) (wholes_asc 65534 0 0 s) f (λ z. o.some (sym o.here ∙ z));
        lower = λ g l b. breaks_wrong (column_of p) 0 (descs s) (column_ascends p) (wholes_asc 65534 0 0 s) g b (o.lower g (omega arith) l);
      }

  -- and what is said to be wrong with it is
  pub broken_reason : (f : ℕ) (w : Wrong) → judged p s ≡ says_broken f (wrong_number w) → Reason (column_of p) (descs s) f w
  unfolding lowest lowest_in
  broken_reason f w e =
      let o = found_lowest (wrong_in required (column_of p) (descs s)) 0 65536 f (wrong_number w) (judged_lowest (says_broken f (wrong_number w)) e refl) in
      wrong_reason (column_of p) 0 (descs s) (column_ascends p) (wholes_asc 65534 0 0 s) f w o.here

-- ---- an answer that is no refusal: it conforms, or a feature is named with one of the five that can be wrong with it

pub record Cased (j : Said) : Type 0 where
  pub feature : ℕ
  pub wrong : Wrong
  pub is : j ≡ says_broken feature (wrong_number wrong)

data Known : ℕ → Type 0 where
  nothing : Known 0
  thing : (w : Wrong) → Known (wrong_number w)

known_desc : (n : Need) (longest : ℕ) (d : Desc) → Known (desc_wrong n longest d)
unfolding desc_wrong line_wrong
known_desc n longest d =
    chosen_case Known 2 _ _ (λ t. thing TooShort)
    (λ t. chosen_case Known 3 _ _ (λ u. thing BitClear) (λ u. chosen_case Known 4 _ _ (λ v. thing NotCurrent) (λ v. chosen_case Known 5 _ _ (λ x. thing TooLong) (λ x. nothing))))

known_of : (longest : ℕ) (ns : List Need) (ds : List Desc) → Known (wrong_of longest ns ds)
unfolding wrong_of
known_of longest [] [] = nothing
known_of longest [] (d ∷ ds) = chosen_case Known 5 _ _ (λ t. thing TooLong) (λ t. nothing)
known_of longest (n ∷ ns) [] = thing Absent
known_of longest (n ∷ ns) (d ∷ ds) = known_desc n longest d

lowest_cases : (w : ℕ → ℕ) → ((f : ℕ) → Known (w f)) → (f k : ℕ) → (lowest_from w f k ≡ says_conforms) ⊎ Cased (lowest_from w f k)
unfolding lowest_from
lowest_cases w h f zero = inl refl
lowest_cases w h f (suc k) = go (w f) refl (h f) (lowest_cases w h (suc f) k)
  where
    at : (v : Wrong) → w f ≡ wrong_number v → lowest_from w f (suc k) ≡ says_broken f (wrong_number v)
    at Absent e = rw (e, lowest_from)
    at TooShort e = rw (e, lowest_from)
    at BitClear e = rw (e, lowest_from)
    at NotCurrent e = rw (e, lowest_from)
    at TooLong e = rw (e, lowest_from)

    go : (n : ℕ) → w f ≡ n → Known n → (lowest_from w (suc f) k ≡ says_conforms) ⊎ Cased (lowest_from w (suc f) k)
        → (lowest_from w f (suc k) ≡ says_conforms) ⊎ Cased (lowest_from w f (suc k))
    go n e nothing more = rw (e, lowest_from) more
    go n e (thing v) more = inr record { feature = f; wrong = v; is = at v e }

pub judged_cases : (p : ℕ) (s : List ℕ) → (judged p s).refusal ≡ accept → (judged p s ≡ says_conforms) ⊎ Cased (judged p s)
unfolding judged lowest lowest_in wrong_in
judged_cases p s k =
    let e : judged p s ≡ lowest (column_of p) (descs s) = unless_none (judge_fault p s) _ _ (fault_none p s (judged p s) refl (ap (λ (r : Refusal). r.number) k)) in
    subst (λ (j : Said). (j ≡ says_conforms) ⊎ Cased j) (sym e)
    (lowest_cases (wrong_in required (column_of p) (descs s)) (λ f. known_of (column_of p).2 _ _) 0 65536)

-- ---- what it is refused for

module _ (p : ℕ) (s : List ℕ) where
  pub input_refuses : ((complete_fault s).number ≡ 0 → ⊥) → judged p s ≡ says (complete_fault s) false [] 0
  unfolding judged
  input_refuses h = sym (judge_input p s _ (complete_fault s) refl h)

  -- no feature breaks a profile by a number of its own
  lowest_plain : (w : ℕ → ℕ) (f k : ℕ) → (lowest_from w f k).refusal ≡ accept
  unfolding lowest_from
  lowest_plain w f zero = refl
  lowest_plain w f (suc k) = go (w f) refl (lowest_plain w (suc f) k)
    where
      go : (n : ℕ) → w f ≡ n → (lowest_from w (suc f) k).refusal ≡ accept → (lowest_from w f (suc k)).refusal ≡ accept
      go zero e more = rw (e, lowest_from) more
      go (suc n) e more = rw (e, lowest_from)

  table_judged : (complete_fault s).number ≡ 0 → has_table p ≡ true → (judged p s).refusal ≡ accept
  unfolding judged judge_fault lowest lowest_in
  table_judged k t =
      let g : judge_fault p s ≡ accept = or_else_none (complete_fault s) _ k ∙ rw t (if_false _ _) in
      ap (λ (x : Said). x.refusal) (unless_none (judge_fault p s) _ _ (ap (λ (r : Refusal). r.number) g))
      ∙ lowest_plain (wrong_in required (column_of p) (descs s)) 0 65536

  table_none : (complete_fault s).number ≡ 0 → has_table p ≡ false → judged p s ≡ says (refuse 40) false [] 0
  unfolding judged judge_fault
  table_none k t =
      let g : judge_fault p s ≡ refuse 40 = or_else_none (complete_fault s) _ k ∙ rw t (if_true _ _) in
      unless_fault (judge_fault p s) _ _ (λ z. omega (arith, ap (λ (r : Refusal). r.number) g)) ∙ ap (λ (r : Refusal). said (Refused r)) g

-- ---- one profile's needs are another's too

module _ (s : List ℕ) where
  -- a response that conforms to a profile is judged by every profile that has a table
  also_judged : (p q : ℕ) → judged p s ≡ says_conforms → has_table q ≡ true → (judged q s).refusal ≡ accept
  unfolding judge_fault
  also_judged p q e t = table_judged q s (or_else_zero _ _ (fault_none p s says_conforms e refl)).0 t

  conforms_too : (p q : ℕ) → has_table q ≡ true → covers (column_of p) (column_of q) ≡ true → judged p s ≡ says_conforms → judged q s ≡ says_conforms
  conforms_too p q t c e =
      none_conforms q s (also_judged p q e t) (λ f l b. conforms_none p s e f l (breaks_covered (column_of p) (column_of q) (descs s) f c b))

  -- what conforms to the archive subset conforms to 0012h
  pub archive_too : judged 0x0000 s ≡ says_conforms → judged 0x0012 s ≡ says_conforms
  unfolding has_table column_of columns required marked pick
  archive_too e = conforms_too 0x0000 0x0012 refl refl e

  -- what conforms to any profile conforms to FFFFh
  pub plain_too : (p : ℕ) → judged p s ≡ says_conforms → judged 0xFFFF s ≡ says_conforms
  unfolding has_table column_of columns pick judge_fault
  plain_too p e =
      let t : has_table p ≡ true = not-false _ (if_zero _ _ _ (or_else_zero _ _ (fault_none p s says_conforms e refl)).1).0 in
      conforms_too p 0xFFFF refl (covers_plain p t) e

-- ---- the numbers that have a table

-- a profile has a table exactly if it is one of these
pub table_is : (p : ℕ) → has_table p ≡ some (λ n. eqb n p) tabled
unfolding has_table column_of columns pick
table_is p = go columns (every_all (λ (c : Column). not (eqb c.1 0)) columns refl)
  where
    go : (cs : List Column) → All (λ (c : Column). not (eqb c.1 0) ≡ true) cs
        → not (eqb (pick (λ c. eqb c.0.0 p) (λ c. c) no_column cs).1 0) ≡ some (λ c. eqb c.0.0 p) cs
    go [] a = refl
    go (c ∷ cs) a = here (eqb c.0.0 p) refl (go cs a.1)
      where
        is : Column → Bool
        is c = eqb c.0.0 p

        here : (t : Bool) → is c ≡ t → not (eqb (pick is (λ c. c) no_column cs).1 0) ≡ some is cs
            → not (eqb (pick is (λ c. c) no_column (c ∷ cs)).1 0) ≡ some is (c ∷ cs)
        here true t more = rw (pick_here is (λ c. c) no_column c cs t) (a.0 ∙ sym (pick_here is (λ c. true) false c cs t))
        here false t more = rw (pick_past is (λ c. c) no_column c cs t) (more ∙ sym (pick_past is (λ c. true) false c cs t))

-- 40 for every other number, and for no other reason
module _ (p : ℕ) (s : List ℕ) (k : (complete_fault s).number ≡ 0) where
  pub untabled_forty : some (λ n. eqb n p) tabled ≡ false → judged p s ≡ says (refuse 40) false [] 0
  untabled_forty t = table_none p s k (table_is p ∙ t)

  pub tabled_judged : some (λ n. eqb n p) tabled ≡ true → (judged p s).refusal ≡ accept
  tabled_judged t = table_judged p s k (table_is p ∙ t)
