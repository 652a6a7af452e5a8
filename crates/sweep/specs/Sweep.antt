-- The sweep: starting one, and what it makes of a response. Assumes nothing: these are definitions.
use Rattle.std.specs.Prelude.{Bool, true, false, not, ◌&&◌, ◌||◌, List, ◌++◌, ℕ, ◌+◌, ltb, eqb, length, take, drop}
use Rattle.base.specs.Lists.{flat}
use Rattle.refusal.specs.declared.Refusal.{Refusal}
use Rattle.refusal.specs.First.{refuse, accept, ◌if◌else◌, ◌or_else◌, unless}
use Rattle.text.specs.declared.Profile.{Profile}
use Rattle.text.specs.Drive.{Desc}
use Rattle.text.specs.Response.{bytes, header_length, most}
use Rattle.text.specs.Reading.{stated_end, stated_profile, walked, read_fault, last_number}
use Rattle.sweep.specs.declared.Sweep.{Sweep}
use Rattle.sweep.specs.declared.Step.{Step}

abbrev pub step : Refusal → Sweep → Step
step r w = record { refusal = r; sweep = w }

-- ---- starting

-- 21: RT over 1. 22: allocation length under 8
unfoldable pub start_rule : (rt a : ℕ) → Refusal
start_rule rt a =
    refuse 21 if ltb 1 rt else
    refuse 22 if ltb a header_length else
    accept

-- a fresh record; and a record with the mark that it has ended
unfoldable pub fresh : (rt a : ℕ) → Sweep
fresh rt a = record { rt = rt; allocation = a; next = record { 0 = 0 }; commands = 0; collected = 0; ended = false; profile = record { 0 = 0 } }

unfoldable pub ended_now : Sweep → Sweep
ended_now w = record { rt = w.rt; allocation = w.allocation; next = w.next; commands = w.commands; collected = w.collected; ended = true; profile = w.profile }

-- a fresh record; on a refusal one that has ended, with all numbers 0
unfoldable pub started : (rt a : ℕ) → Step
started rt a = unless (start_rule rt a) (λ r. step r (ended_now (fresh 0 0))) (step accept (fresh rt a))

-- ---- a response

-- it is cut
unfoldable pub cut : List ℕ → Bool
cut s = not (eqb (length s) (stated_end s))

-- the whole descriptors of a response to the record's next command
unfoldable pub wholes_of : Sweep → List ℕ → List Desc
wholes_of w s = (walked w.rt w.next.0 s).found

-- it has another Current Profile than the first accepted response had
unfoldable pub changed : Sweep → List ℕ → Bool
changed w s = ltb 0 w.commands && not (eqb (stated_profile s) w.profile.0)

-- what is refused of a response s that reads well, where the collecting buffer has `room` bytes
abbrev pub room_rule : (w : Sweep) (s : List ℕ) (room : ℕ) → Refusal
room_rule w s room =
    -- 28: cut, of fewer than C bytes
    refuse 28 if cut s && ltb (length s) (most w.allocation) else
    -- 45: with commands so far, another Current Profile than the first response had
    refuse 45 if changed w s else
    -- 23: cut, with no whole descriptor
    refuse 23 if cut s && eqb (length (wholes_of w s)) 0 else
    -- 27: cut after a whole FFFFh
    refuse 27 if cut s && eqb (last_number (wholes_of w s)) 65535 else
    -- 24: no room behind what was collected
    refuse 24 if ltb room (w.collected + length (flat bytes (wholes_of w s))) else
    accept

-- the first refusal of a response s with any record
unfoldable pub take_fault : (w : Sweep) (s : List ℕ) (room : ℕ) → Refusal
take_fault w s room =
    -- 21, 22
    start_rule w.rt w.allocation or_else
    -- 26: it had ended, or has more than 65,535 commands
    refuse 26 if w.ended else
    refuse 26 if ltb 65535 w.commands else
    -- the reading's
    read_fault (most w.allocation) w.rt w.next.0 s or_else
    -- 28, 45, 23, 27, 24
    room_rule w s room

-- what a refusal leaves of the record: on 23 and 45 only the mark that it has ended changes, on any other nothing
unfoldable pub ends_sweep : Refusal → Bool
ends_sweep r = eqb r.number 23 || eqb r.number 45

unfoldable pub left_by : Refusal → Sweep → Sweep
left_by r w = elim (ends_sweep r) [ true ↦ ended_now w | false ↦ w ]

-- the Current Profile that a record holds after an accepted response with profile p: that of the first
unfoldable pub held_profile : Sweep → Profile → Profile
held_profile w p = elim (eqb w.commands 0) [ true ↦ p | false ↦ w.profile ]

-- the record after an accepted response with profile p, with so many bytes collected: a complete one ends it, one that is cut sets the next start
-- to the last number plus 1
unfoldable pub advanced : Sweep → Profile → (cut : Bool) (last collected : ℕ) → Sweep
advanced w p cut last collected = record {
  rt = w.rt;
  allocation = w.allocation;
  next = elim cut [ true ↦ record { 0 = last + 1 } | false ↦ w.next ];
  commands = w.commands + 1;
  collected = collected;
  ended = not cut;
  profile = held_profile w p;
}

-- what comes of a response: the answer, and the collecting buffer afterwards
pub record Turn : Type 0 where
  pub step : Step
  pub buffer : List ℕ

abbrev pub turn : Step → List ℕ → Turn
turn t out = record { step = t; buffer = out }

-- accepted, with the whole descriptors ds: their bytes stand behind those collected, the buffer's only change
unfoldable pub taking : Sweep → (s : List ℕ) → List Desc → (out : List ℕ) → Turn
taking w s ds out =
    turn (step accept (advanced w record { 0 = stated_profile s } (cut s) (last_number ds) (w.collected + length (flat bytes ds))))
    (take w.collected out ++ flat bytes ds ++ drop (w.collected + length (flat bytes ds)) out)

-- a response s with the collecting buffer out; a refusal changes nothing there
unfoldable pub stepped : (w : Sweep) (s out : List ℕ) → Turn
stepped w s out = unless (take_fault w s (length out)) (λ r. turn (step r (left_by r w)) out) (taking w s (wholes_of w s) out)
