-- What a response without a fault is: each rule, said of every descriptor. Assumes nothing: these are definitions.
use Rattle.std.specs.Prelude.{◌≡◌, Bool, true, List, ℕ, ◌+◌, ◌*◌, ◌/◌, ◌%◌, ◌≤◌, ◌<◌, length, get_or}
use Rattle.std.specs.Int.Bits.{bit_and}
use Rattle.base.specs.Lists.{All}
use Rattle.fields.specs.Field.{field}
use Rattle.text.specs.Flags.{reserved, version, persistent, current}
use Rattle.text.specs.Drive.{Desc}
use Rattle.legal.specs.declared.Length.{Length}
use Rattle.legal.specs.declared.Length.TheVariants.{Any, Exactly, Counted}
use Rattle.legal.specs.Legal.{row_of}
use Rattle.legal.specs.Bodies.{byte_of, mask_at}
use Rattle.reading.specs.Places.{descs, reported}
use Rattle.reading.specs.Completed.{complete_fault}

-- a body is at least as long as its row says, and at most
abbrev pub AtLeast : Length → List ℕ → Type 0
AtLeast Any body = Unit {0}
AtLeast (Exactly k) body = k ≤ length body
AtLeast Counted body = 4 + byte_of body 7 ≤ length body

abbrev pub AtMost : Length → List ℕ → Type 0
AtMost Any body = Unit {0}
AtMost (Exactly k) body = length body ≤ k
AtMost Counted body = length body ≤ 4 + byte_of body 7 + 3

-- no rule is broken; with a Version above 0 the body may be longer, and what stands in it is not looked at
pub record Faultless (removable : Bool) (d : Desc) : Type 0 where
  -- 33
  pub reserved_zero : reserved d.flags ≡ 0
  -- 34
  pub current_too : persistent d.flags ≡ 1 → current d.flags ≡ 1
  -- 31
  pub enough : AtLeast (row_of d.number).1 d.body
  pub no_more : version d.flags ≡ 0 → AtMost (row_of d.number).1 d.body
  -- 32
  pub both : d.number ≤ 0x0003 → (persistent d.flags ≡ 1) × (current d.flags ≡ 1)
  -- 35
  pub free : (row_of d.number).3 ≡ true → removable ≡ true → persistent d.flags ≡ 0
  -- 36
  pub clear : version d.flags ≡ 0 → (k : ℕ) → k < length d.body
      → bit_and (get_or d.body k 0) (mask_at (row_of d.number).1 (row_of d.number).2 (byte_of d.body 7) k) ≡ get_or d.body k 0
  -- 37
  pub cue : version d.flags ≡ 0 → d.number ≡ 0x002E → byte_of d.body 4 / 32 % 2 ≡ 0 → field 3 d.body 1 ≡ 0
  -- 39
  pub numbered : version d.flags ≡ 0 → d.number ≡ 0x0000 → (i : ℕ) → i < length d.body / 4 → 0 < field 2 d.body (4 * i)

-- the response is complete, features 0 and 1 are reported, and no descriptor has a fault
pub record Passes (s : List ℕ) : Type 0 where
  pub input : (complete_fault s).number ≡ 0
  pub list : reported 0 (descs s) ≡ true
  pub core : reported 1 (descs s) ≡ true
  pub each : All (Faultless (reported 3 (descs s))) (descs s)
