-- The command that is made: how long it is, what it means, and the builder's answers case by case. Assumes nothing.
use mathlib.Core.Path.{◌≡◌, refl, sym, ap, ◌∙◌}
use mathlib.Core.Bool.{Bool, true, false, not}
use mathlib.Core.List.{List, [], ◌∷◌, ◌++◌}
use Prim.Native.Nat.{ℕ, ◌+◌, ◌*◌, ◌/◌, ◌%◌, ◌≤◌, ◌<◌}
use native.Mathlib.Nat.{mod-eq_of_lt}
use native.Mathlib.Omega.{arith}
use borrow.Author.Tests.{eqb-true, ne_eqb, ltb-false, lt-ltb, le-ltb}
use lib.Dec.{eqb, ltb}
use lib.ListN.{length, take, drop, length-take}
use lib.Seq.{take-take}
use Rattle.fields.specs.Field.{spell}
use Rattle.fields.proofs.Laws.{field_here}
use Rattle.refusal.specs.declared.Refusal.{Refusal}
use Rattle.refusal.specs.First.{refuse, accept, ◌if◌else◌}
use Rattle.refusal.proofs.First.{if_true, if_false}
use Rattle.lent.specs.Wrote.{Wrote}
use Rattle.lent.specs.declared.Made.{Made}
use Rattle.lent.specs.Maker.{outcome, refused, written, refusing, making}
use Rattle.lent.proofs.Laws.{cut}
use Rattle.lent.proofs.Maker.{written_making, makes_fault, makes_short, makes_made}
use Rattle.command.specs.Command.{opcode_of, rt_of, sfn_of, allocation_of, command_length, command_fault, SameAsked, packet, command_bytes, ask_fault, built}
use Rattle.command.proofs.Same.{same_rt, same_sfn, same_allocation, same_fault}

-- ---- its length

length_from : (n : ℕ) → command_length n ≡ true → (10 ≤ n) × (n ≤ 12)
unfolding command_length
length_from n h = go (eqb n 10) refl
  where
    go : (b : Bool) → eqb n 10 ≡ b → (10 ≤ n) × (n ≤ 12)
    go true e = let k : n ≡ 10 = eqb-true n 10 e in (omega arith, omega arith)
    go false e = let k : n ≡ 12 = eqb-true n 12 (rw e at h) in (omega arith, omega arith)

length_packet : (rt sfn a : ℕ) → length (packet rt sfn a) ≡ 12
unfolding packet spell
length_packet rt sfn a = refl

module _ (n rt sfn a : ℕ) (long : command_length n ≡ true) where
  pub length_command : length (command_bytes n rt sfn a) ≡ n
  unfolding command_bytes
  length_command = length-take n (packet rt sfn a) ∙ omega (arith, length_packet rt sfn a, length_from n long)

  -- which of the two lengths makes no difference
  packet_same : SameAsked (command_bytes n rt sfn a) (packet rt sfn a)
  unfolding command_bytes command_length
  packet_same = record {
    one = ap command_length length_command ∙ long;
    other = rw (length_packet rt sfn a);
    front = take-take 9 n (packet rt sfn a) (omega (arith, length_from n long));
  }

-- ---- its meaning: of either length it is accepted, and asks for exactly those three

module _ (n rt sfn a : ℕ) (long : command_length n ≡ true) where
  pub command_rt : rt ≤ 2 → rt_of (command_bytes n rt sfn a) ≡ rt
  unfolding packet spell rt_of
  command_rt legal = same_rt _ _ (packet_same n rt sfn a long) ∙ mod-eq_of_lt (omega arith)

  pub command_sfn : sfn < 65536 → sfn_of (command_bytes n rt sfn a) ≡ sfn
  unfolding packet spell sfn_of
  command_sfn low =
      same_sfn _ _ (packet_same n rt sfn a long) ∙ field_here (packet rt sfn a) 2 2 sfn ((0 ∷ 0 ∷ 0 ∷ []) ++ spell 2 a ++ (0 ∷ 0 ∷ 0 ∷ [])) refl low

  pub command_allocation : a < 65536 → allocation_of (command_bytes n rt sfn a) ≡ a
  unfolding packet spell allocation_of
  command_allocation fits = same_allocation _ _ (packet_same n rt sfn a long) ∙ field_here (packet rt sfn a) 7 2 a (0 ∷ 0 ∷ 0 ∷ []) refl fits

  pub command_fine : rt ≤ 2 → command_fault (command_bytes n rt sfn a) ≡ accept
  unfolding packet spell command_fault opcode_of rt_of command_length ◌if◌else◌
  command_fine legal =
      let r : rt % 4 ≡ rt = mod-eq_of_lt (omega arith) in
      same_fault _ _ (packet_same n rt sfn a long) ∙ rw (r, ne_eqb rt 3 (λ e. omega arith))

-- ---- the builder

-- what is not refused has one of the lengths, and an RT that is not reserved
pub ask_fine : (n rt : ℕ) → (ask_fault n rt).number ≡ 0 → (command_length n ≡ true) × (rt ≤ 2)
unfolding ask_fault ◌if◌else◌
ask_fine n rt = by_length (command_length n)
  where
    by_rt : (b : Bool) → ltb 2 rt ≡ b → (refuse 11 if b else accept).number ≡ 0 → rt ≤ 2
    by_rt true e z = absurd (omega arith)
    by_rt false e z = ltb-false 2 rt e

    by_length : (b : Bool) → (refuse 9 if not b else refuse 11 if ltb 2 rt else accept).number ≡ 0 → (b ≡ true) × (rt ≤ 2)
    by_length true z = (refl, by_rt (ltb 2 rt) refl z)
    by_length false z = absurd (omega arith)

module _ (n rt sfn a : ℕ) (d : List ℕ) where
  built_fault : ((ask_fault n rt).number ≡ 0 → ⊥) → built n rt sfn a d ≡ refusing d (ask_fault n rt)
  unfolding built
  built_fault h = makes_fault (ask_fault n rt) 12 (command_bytes n rt sfn a) d h

  -- the refusal that is found
  pub built_by : {r : Refusal} → ask_fault n rt ≡ r → (r.number ≡ 0 → ⊥) → built n rt sfn a d ≡ refusing d r
  built_by e h = rw e at (built_fault (λ z. h (sym (ap (λ (r : Refusal). r.number) e) ∙ z)))

  pub built_short : (ask_fault n rt).number ≡ 0 → length d < n → built n rt sfn a d ≡ refusing d (refuse 12)
  unfolding built
  built_short z h =
      makes_short (ask_fault n rt) 12 (command_bytes n rt sfn a) d z (λ q. omega arith) (omega (arith, length_command n rt sfn a (ask_fine n rt z).0))

  pub built_made : (ask_fault n rt).number ≡ 0 → n ≤ length d → built n rt sfn a d ≡ making (command_bytes n rt sfn a) d
  unfolding built
  built_made z h = makes_made (ask_fault n rt) 12 (command_bytes n rt sfn a) d z (omega (arith, length_command n rt sfn a (ask_fine n rt z).0))

-- ---- what its code finds

-- where the length is not refused, and where it is
pub long : (n : ℕ) (b : Bool) → b ≡ command_length n → not b ≡ false → command_length n ≡ true
long n true e h = sym e
long n false e h = sym e ∙ sym h

pub other : (n : ℕ) (b : Bool) → b ≡ command_length n → not b ≡ true → command_length n ≡ false
other n true e h = sym e ∙ sym h
other n false e h = sym e

pub ask_nine : (n rt : ℕ) → command_length n ≡ false → ask_fault n rt ≡ refuse 9
unfolding ask_fault
ask_nine n rt e = rw (e, if_true)

pub ask_eleven : (n rt : ℕ) → command_length n ≡ true → 2 < rt → ask_fault n rt ≡ refuse 11
unfolding ask_fault
ask_eleven n rt e h = rw (e, if_false, lt-ltb 2 rt h, if_true)

pub ask_zero : (n rt : ℕ) → command_length n ≡ true → rt ≤ 2 → (ask_fault n rt).number ≡ 0
unfolding ask_fault
ask_zero n rt e h = rw (e, if_false, le-ltb 2 rt h, if_false)

-- the packet word by word
word : (v a b c d : ℕ) → v ≡ a * 16777216 + b * 65536 + c * 256 + d → a < 256 → b < 256 → c < 256 → d < 256 → (a ∷ b ∷ c ∷ d ∷ []) ≡ spell 4 v
unfolding spell
word v a b c d e l m n o =
    let w : a ≡ v / 256 / 256 / 256 % 256 = omega (arith, e, l, m, n, o) in
    let x : b ≡ v / 256 / 256 % 256 = omega (arith, e, l, m, n, o) in
    let y : c ≡ v / 256 % 256 = omega (arith, e, l, m, n, o) in
    let z : d ≡ v % 256 = omega (arith, e, l, m, n, o) in
    λ i. w i ∷ x i ∷ y i ∷ z i ∷ []

pub packet_words : (rt sfn a : ℕ) → rt < 256 → sfn < 65536 → a < 65536 → spell 4 (0x46 * 16777216 + rt * 65536 + sfn) ++ spell 4 (a / 256) ++ spell 4 (a % 256 * 16777216) ≡ packet rt sfn a
unfolding packet spell
packet_words rt sfn a l m k =
    let first = word (0x46 * 16777216 + rt * 65536 + sfn) 0x46 rt (sfn / 256 % 256) (sfn % 256) (omega arith) (omega arith) l (omega arith) (omega arith) in
    let second = word (a / 256) 0 0 0 (a / 256 % 256) (omega arith) (omega arith) (omega arith) (omega arith) (omega arith) in
    let third = word (a % 256 * 16777216) (a % 256) 0 0 0 (omega arith) (omega arith) (omega arith) (omega arith) (omega arith) in
    sym (λ i. first i ++ second i ++ third i)

module _ (n rt sfn a : ℕ) (d : List ℕ) {m : Made} where
  -- the answer is the refusal r
  refused_by : {r : Refusal} → ask_fault n rt ≡ r → (r.number ≡ 0 → ⊥) → m ≡ refused r → outcome m d ≡ built n rt sfn a d
  unfolding refusing
  refused_by e h q = ap (λ (x : Made). outcome x d) q ∙ sym (built_by n rt sfn a d e h)

  pub refused_length : command_length n ≡ false → m ≡ refused (refuse 9) → outcome m d ≡ built n rt sfn a d
  refused_length e = refused_by (ask_nine n rt e) (λ z. omega arith)

  pub refused_rt : command_length n ≡ true → 2 < rt → m ≡ refused (refuse 11) → outcome m d ≡ built n rt sfn a d
  refused_rt long h = refused_by (ask_eleven n rt long h) (λ z. omega arith)

  pub refused_short : command_length n ≡ true → rt ≤ 2 → length d < n → m ≡ refused (refuse 12) → outcome m d ≡ built n rt sfn a d
  unfolding refusing
  refused_short long legal h q = ap (λ (x : Made). outcome x d) q ∙ sym (built_short n rt sfn a d (ask_zero n rt long legal) h)

  -- the front of the packet was written
  pub front_written : {count : ℕ} {e : List ℕ} → command_length n ≡ true → rt ≤ 2 → n ≤ length d → Wrote (take n d) 0 (packet rt sfn a) count e → m ≡ written count
      → outcome m (e ++ drop n d) ≡ built n rt sfn a d
  unfolding command_bytes
  front_written {e = e} long legal h w q =
      ap (λ (x : Made). outcome x (e ++ drop n d)) q
      ∙ written_making (omega (arith, length_command n rt sfn a long)) (cut h w)
      ∙ sym (built_made n rt sfn a d (ask_zero n rt long legal) h)
