-- The walk over a response, step by step. Assumes nothing.
use mathlib.Core.Path.{◌≡◌, refl, ap, ◌∙◌}
use mathlib.Core.Logic.{◌⊎◌, inl, inr}
use mathlib.Core.Bool.{false, not, ◌&&◌}
use mathlib.Core.List.{List, [], ◌∷◌, ◌++◌, append_assoc}
use Prim.Native.Nat.{ℕ, zero, suc, ◌+◌, ◌%◌, ◌≤◌, ◌<◌}
use native.Mathlib.Omega.{arith}
use lib.Dec.{eqb}
use lib.ListN.{length, drop, get_or, length-append}
use lib.Seq.{take-append_seam}
use borrow.Author.Tests.{ltb-false, eqb-true, not-false, le-leb, lt-leb, le-ltb, eq-eqb}
use Rattle.base.proofs.Lists.{drop_behind}
use Rattle.fields.specs.Field.{spell}
use Rattle.fields.proofs.Laws.{length_spell, field_here, byte_here}
use Rattle.refusal.specs.declared.Refusal.{Refusal}
use Rattle.refusal.specs.First.{accept, ◌if◌else◌}
use Rattle.text.specs.Flags.{current}
use Rattle.text.specs.Drive.{Desc}
use Rattle.text.specs.Response.{bytes, header_length}
use Rattle.text.specs.Reading.{stated_length, stated_end, header_rule, head_rule, number_at, flags_at, length_at, desc_at, head_fault, Walked, stop, onward, walk, walked, read_fault, wholes}
use Rattle.refusal.proofs.First.{known, if_plain, or_else_plain, if_zero, or_else_none, or_else_zero, unless_none, unless_fault}
use Rattle.base.proofs.Compare.{le_or_lt}

module _ (k rt sfn end : ℕ) (s : List ℕ) (lo at : ℕ) where
  -- fewer than four bytes are left
  pub walk_few : length s < at + 4 → walk (suc k) rt sfn end s lo at ≡ stop accept
  unfolding walk
  walk_few h = rw (lt-leb (at + 4) (length s) h, walk)

  -- the four header bytes are refused
  pub walk_bad : at + 4 ≤ length s → ((head_fault rt sfn end s lo at).number ≡ 0 → ⊥)
      → walk (suc k) rt sfn end s lo at ≡ stop (head_fault rt sfn end s lo at)
  unfolding walk
  walk_bad h e = rw (le-leb (at + 4) (length s) h, walk) (unless_fault _ stop _ e)

  -- the body is cut
  pub walk_short : at + 4 ≤ length s → (head_fault rt sfn end s lo at).number ≡ 0 → length s < at + 4 + length_at s at
      → walk (suc k) rt sfn end s lo at ≡ stop accept
  unfolding walk
  walk_short h e l = rw (le-leb (at + 4) (length s) h, lt-leb (at + 4 + length_at s at) (length s) l, walk) (unless_none _ stop _ e)

  -- a whole descriptor
  pub walk_step : at + 4 ≤ length s → (head_fault rt sfn end s lo at).number ≡ 0 → at + 4 + length_at s at ≤ length s
      → walk (suc k) rt sfn end s lo at ≡ onward (desc_at s at) (walk k rt sfn end s (number_at s at + 1) (at + 4 + length_at s at))
  unfolding walk
  walk_step h e l = rw (le-leb (at + 4) (length s) h, le-leb (at + 4 + length_at s at) (length s) l, walk) (unless_none _ stop _ e)

-- with no steps left the walk is at its end, and so it is with fewer than four bytes
pub walk_none : (rt sfn end : ℕ) (s : List ℕ) (lo at : ℕ) → walk zero rt sfn end s lo at ≡ stop accept
unfolding walk
walk_none rt sfn end s lo at = refl

pub walk_end : (k rt sfn end : ℕ) (s : List ℕ) (lo at : ℕ) → length s < at + 4 → walk k rt sfn end s lo at ≡ stop accept
walk_end zero rt sfn end s lo at h = walk_none rt sfn end s lo at
walk_end (suc k) rt sfn end s lo at h = walk_few k rt sfn end s lo at h

-- no refusal of a reading has a place
head_fault_plain : (rt sfn end : ℕ) (s : List ℕ) (lo at : ℕ) → (head_fault rt sfn end s lo at).place ≡ 0
unfolding head_fault head_rule
head_fault_plain rt sfn end s lo at = if_plain _ _ _ (if_plain _ _ _ (if_plain _ _ _ (if_plain _ _ _ (if_plain _ _ _ refl))))

header_rule_plain : (limit rt received stated : ℕ) → (header_rule limit rt received stated).place ≡ 0
unfolding header_rule
header_rule_plain limit rt received stated =
    if_plain _ _ _ (if_plain _ _ _ (if_plain _ _ _ (if_plain _ _ _ (if_plain _ _ _ (if_plain _ _ _ (if_plain _ _ _ refl))))))

-- what holds of every walk over s, by induction: of one that ends, of one whose four header bytes are refused, and of one that finds a whole descriptor and goes on
pub walk_by : (rt sfn end : ℕ) (s : List ℕ) (P : (lo at : ℕ) → Walked → Type 0)
    → ((lo at : ℕ) → P lo at (stop accept))
    → ((lo at : ℕ) → at + 4 ≤ length s → P lo at (stop (head_fault rt sfn end s lo at)))
    → ((lo at : ℕ) (w : Walked) → (head_fault rt sfn end s lo at).number ≡ 0 → at + 4 + length_at s at ≤ length s
    → P (number_at s at + 1) (at + 4 + length_at s at) w → P lo at (onward (desc_at s at) w))
    → (k lo at : ℕ) → P lo at (walk k rt sfn end s lo at)
unfolding walk
walk_by rt sfn end s P none bad more zero lo at = none lo at
walk_by rt sfn end s P none bad more (suc k) lo at =
    go (head_fault rt sfn end s lo at).number refl (le_or_lt (at + 4) (length s)) (le_or_lt (at + 4 + length_at s at) (length s))
    (walk_by rt sfn end s P none bad more k (number_at s at + 1) (at + 4 + length_at s at))
  where
    go : (n : ℕ) → (head_fault rt sfn end s lo at).number ≡ n → (at + 4 ≤ length s) ⊎ (length s < at + 4)
        → (at + 4 + length_at s at ≤ length s) ⊎ (length s < at + 4 + length_at s at)
        → P (number_at s at + 1) (at + 4 + length_at s at) (walk k rt sfn end s (number_at s at + 1) (at + 4 + length_at s at)) → P lo at (walk (suc k) rt sfn end s lo at)
    go n e (inr few) q h = rw (walk_few k rt sfn end s lo at few) (none lo at)
    go zero e (inl four) (inl all) h = rw (walk_step k rt sfn end s lo at four e all) (more lo at (walk k rt sfn end s (number_at s at + 1) (at + 4 + length_at s at)) e all h)
    go zero e (inl four) (inr cut) h = rw (walk_short k rt sfn end s lo at four e cut) (none lo at)
    go (suc n) e (inl four) q h = rw (walk_bad k rt sfn end s lo at four (λ z. omega arith)) (bad lo at four)

-- the same where whatever stops it, a refusal without a place, is the same to P
pub walk_induct : (rt sfn end : ℕ) (s : List ℕ) (P : (lo at : ℕ) → Walked → Type 0)
    → ((lo at : ℕ) (r : Refusal) → r.place ≡ 0 → P lo at (stop r))
    → ((lo at : ℕ) (w : Walked) → (head_fault rt sfn end s lo at).number ≡ 0 → at + 4 + length_at s at ≤ length s
    → P (number_at s at + 1) (at + 4 + length_at s at) w → P lo at (onward (desc_at s at) w))
    → (k lo at : ℕ) → P lo at (walk k rt sfn end s lo at)
walk_induct rt sfn end s P none more =
    walk_by rt sfn end s P (λ lo at. none lo at accept refl) (λ lo at four. none lo at (head_fault rt sfn end s lo at) (head_fault_plain rt sfn end s lo at)) more

-- ---- a response's header

-- what its acceptance says, and the other way round
pub record HeaderFine (limit rt received stated : ℕ) : Type 0 where
  pub two : rt ≤ 2
  pub eight : 8 ≤ received
  pub most : received ≤ 65534
  pub low : 4 ≤ stated
  pub four : stated % 4 ≡ 0
  pub within : received ≤ stated + 4
  pub room : received ≤ limit

pub header_rule_accept : (limit rt received stated : ℕ) → HeaderFine limit rt received stated → header_rule limit rt received stated ≡ accept
unfolding header_rule ◌if◌else◌
header_rule_accept limit rt received stated h =
    rw (le-ltb 2 rt h.two, le-ltb received 8 h.eight, le-ltb 65534 received h.most, le-ltb stated 4 h.low, eq-eqb (stated % 4) 0 h.four, le-ltb (stated + 4) received h.within, le-ltb limit received h.room)

pub header_rule_zero : (limit rt received stated : ℕ) → (header_rule limit rt received stated).number ≡ 0 → HeaderFine limit rt received stated
unfolding header_rule
header_rule_zero limit rt received stated e =
    let a = if_zero _ _ _ e in
    let b = if_zero _ _ _ a.1 in
    let c = if_zero _ _ _ b.1 in
    let d = if_zero _ _ _ c.1 in
    let f = if_zero _ _ _ d.1 in
    let g = if_zero _ _ _ f.1 in
    record {
      two = ltb-false 2 rt a.0;
      eight = ltb-false received 8 b.0;
      most = ltb-false 65534 received c.0;
      low = ltb-false stated 4 d.0;
      four = eqb-true (stated % 4) 0 (not-false (eqb (stated % 4) 0) f.0);
      within = ltb-false (stated + 4) received g.0;
      room = ltb-false limit received (if_zero _ _ _ g.1).0;
    }

-- ---- a descriptor's four header bytes

-- what their acceptance says, and the other way round
pub record HeadFine (rt sfn end lo at number flags len : ℕ) : Type 0 where
  pub four : len % 4 ≡ 0
  pub from : lo ≤ number
  pub one : (eqb rt 2 && not (eqb number sfn)) ≡ false
  pub on : (eqb rt 1 && not (eqb (current flags) 1)) ≡ false
  pub within : at + 4 + len ≤ end

pub head_rule_accept : (rt sfn end lo at number flags len : ℕ) → HeadFine rt sfn end lo at number flags len → head_rule rt sfn end lo at number flags len ≡ accept
unfolding head_rule ◌if◌else◌
head_rule_accept rt sfn end lo at number flags len h =
    rw (eq-eqb (len % 4) 0 h.four, le-ltb number lo h.from, h.one, h.on, le-ltb end (at + 4 + len) h.within)

pub head_rule_zero : (rt sfn end lo at number flags len : ℕ) → (head_rule rt sfn end lo at number flags len).number ≡ 0 → HeadFine rt sfn end lo at number flags len
unfolding head_rule
head_rule_zero rt sfn end lo at number flags len e =
    let a = if_zero _ _ _ e in
    let b = if_zero _ _ _ a.1 in
    let c = if_zero _ _ _ b.1 in
    let d = if_zero _ _ _ c.1 in
    record {
      four = eqb-true (len % 4) 0 (not-false (eqb (len % 4) 0) a.0);
      from = ltb-false number lo b.0;
      one = c.0;
      on = d.0;
      within = ltb-false end (at + 4 + len) (if_zero _ _ _ d.1).0;
    }

abbrev pub head : Desc → List ℕ
head d = spell 2 d.number ++ (d.flags ∷ length d.body ∷ [])

pub length_head : (d : Desc) → length (head d) ≡ 4
length_head d = omega (arith, length-append (spell 2 d.number) (d.flags ∷ length d.body ∷ []), length_spell 2 d.number)

pub bytes_head : (d : Desc) (x : List ℕ) → bytes d ++ x ≡ head d ++ (d.body ++ x)
unfolding bytes
bytes_head d x = append_assoc (head d) d.body x

-- what is read at a place where they stand
module _ (s : List ℕ) (at : ℕ) (d : Desc) (x : List ℕ) (e : drop at s ≡ head d ++ x) where
  apart : drop at s ≡ spell 2 d.number ++ (d.flags ∷ length d.body ∷ x)
  apart = e ∙ append_assoc (spell 2 d.number) (d.flags ∷ length d.body ∷ []) x

  behind_number : drop (at + 2) s ≡ d.flags ∷ length d.body ∷ x
  behind_number = drop_behind s at (spell 2 d.number) (d.flags ∷ length d.body ∷ x) 2 apart (length_spell 2 d.number)

  pub number_at_here : d.number < 65536 → number_at s at ≡ d.number
  unfolding number_at
  number_at_here l = field_here s at 2 d.number (d.flags ∷ length d.body ∷ x) apart l

  pub flags_at_here : flags_at s at ≡ d.flags
  unfolding flags_at
  flags_at_here = byte_here s (at + 2) d.flags (length d.body ∷ x) behind_number

  pub length_at_here : length_at s at ≡ length d.body
  unfolding length_at
  length_at_here =
      ap (λ (n : ℕ). get_or s n 0) {x = at + 3} {y = at + 2 + 1} (omega arith)
      ∙ byte_here s (at + 2 + 1) (length d.body) x (drop_behind s (at + 2) (d.flags ∷ []) (length d.body ∷ x) 1 behind_number refl)

  -- and behind them the body
  pub desc_at_here : d.number < 65536 → (y : List ℕ) → x ≡ d.body ++ y → desc_at s at ≡ d
  unfolding desc_at
  desc_at_here l y q = rw (number_at_here l, flags_at_here, length_at_here, drop_behind s at (head d) x 4 e (length_head d), q, take-append_seam d.body y)

-- ---- a whole reading

module _ (limit rt sfn : ℕ) (s : List ℕ) where
  walked_plain : (walked rt sfn s).fault.place ≡ 0
  unfolding walked
  walked_plain = walk_induct rt sfn (stated_end s) s (λ lo at w. w.fault.place ≡ 0) (λ lo at r e. e) (λ lo at w e l h. h) (length s) sfn header_length

  pub read_fault_plain : (read_fault limit rt sfn s).place ≡ 0
  unfolding read_fault
  read_fault_plain = or_else_plain _ _ (header_rule_plain limit rt (length s) (stated_length s)) walked_plain

  -- what its acceptance says, and the other way round
  pub read_fault_header : (read_fault limit rt sfn s).number ≡ 0 → HeaderFine limit rt (length s) (stated_length s)
  unfolding read_fault
  read_fault_header e = header_rule_zero limit rt (length s) (stated_length s) (or_else_zero (header_rule limit rt (length s) (stated_length s)) (walked rt sfn s).fault e).0

  pub read_fault_walk : (read_fault limit rt sfn s).number ≡ 0 → (walked rt sfn s).fault.number ≡ 0
  unfolding read_fault
  read_fault_walk e = (or_else_zero (header_rule limit rt (length s) (stated_length s)) (walked rt sfn s).fault e).1

  pub read_fault_accept : HeaderFine limit rt (length s) (stated_length s) → (walked rt sfn s).fault.number ≡ 0 → read_fault limit rt sfn s ≡ accept
  unfolding read_fault
  read_fault_accept h e =
      or_else_none (header_rule limit rt (length s) (stated_length s)) (walked rt sfn s).fault (ap (λ (r : Refusal). r.number) (header_rule_accept limit rt (length s) (stated_length s) h))
      ∙ known (walked rt sfn s).fault walked_plain e

  pub wholes_accepted : (read_fault limit rt sfn s).number ≡ 0 → wholes limit rt sfn s ≡ (walked rt sfn s).found
  unfolding wholes
  wholes_accepted e = unless_none _ _ _ e

  pub wholes_refused : ((read_fault limit rt sfn s).number ≡ 0 → ⊥) → wholes limit rt sfn s ≡ []
  unfolding wholes
  wholes_refused h = unless_fault _ _ _ h
