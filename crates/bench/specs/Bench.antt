-- The bench sweep: the driver's sweep run against the box of one sheet. Assumes nothing: these are definitions.
use Rattle.std.specs.Prelude.{true, false, List, ◌++◌, ℕ, zero, suc, ltb, leb, length, set, drop, replicate}
use Rattle.refusal.specs.declared.Refusal.{Refusal}
use Rattle.refusal.specs.First.{refuse, accept, ◌if◌else◌, ◌or_else◌, unless}
use Rattle.text.specs.Drive.{Drive}
use Rattle.text.specs.Response.{sent, most}
use Rattle.layout.specs.Layout.{Sheet}
use Rattle.sheet.specs.Check.{verdict}
use Rattle.sheet.specs.Meaning.{meaning}
use Rattle.sweep.specs.declared.Sweep.{Sweep}
use Rattle.sweep.specs.Sweep.{start_rule, fresh, Turn, stepped}
use Rattle.bench.specs.declared.Benched.{Benched}

-- the three lent buffers
pub record Buffers : Type 0 where
  pub response : List ℕ
  pub collected : List ℕ
  pub starts : List ℕ

abbrev pub buffers : (response collected starts : List ℕ) → Buffers
buffers response collected starts = record { response = response; collected = collected; starts = starts }

-- where a bench sweep stands
pub record State : Type 0 where
  pub sweep : Sweep
  pub buffers : Buffers

abbrev pub state : Sweep → Buffers → State
state w b = record { sweep = w; buffers = b }

-- what comes of it
pub record Ending : Type 0 where
  pub reply : Benched
  pub buffers : Buffers

abbrev pub ending : Benched → Buffers → Ending
ending r b = record { reply = r; buffers = b }

-- a buffer set to zero throughout
unfoldable pub zeros : List ℕ → List ℕ
zeros d = replicate (length d) 0

-- a refusal, where the buffers came as b: its number, both counts 0, all three buffers zero throughout
unfoldable pub failing : Buffers → Refusal → Ending
failing b r = ending record { refusal = r; commands = 0; collected = 0 } (buffers (zeros b.response) (zeros b.collected) (zeros b.starts))

-- success: the command count, the count of collected bytes, and the buffers as the rounds left them
unfoldable pub succeeding : State → Ending
succeeding w = ending record { refusal = accept; commands = w.sweep.commands; collected = w.sweep.collected } w.buffers

-- ---- a round

-- what the drive m sends for the record's next command
abbrev pub reply : Drive → Sweep → List ℕ
reply m w = sent w.rt w.next.0 w.allocation m

-- the response buffer d, set to zero and then asked into: the bytes sent, and zeros behind them
unfoldable pub filled : (xs d : List ℕ) → List ℕ
filled xs d = xs ++ drop (length xs) (zeros d)

-- what the record makes of just the bytes sent
abbrev pub turn_at : Drive → State → Turn
turn_at m w = stepped w.sweep (reply m w.sweep) w.buffers.collected

-- 25: no room for another start. Then the record's refusal
unfoldable pub round_fault : Drive → State → Refusal
round_fault m w = refuse 25 if leb (length w.buffers.starts) w.sweep.commands else (turn_at m w).step.refusal

-- a round that nothing refuses; the start is noted behind those before it
unfoldable pub rounded : Drive → State → State
rounded m w =
    state (turn_at m w).step.sweep
    (buffers (filled (reply m w.sweep) w.buffers.response) (turn_at m w).buffer (set w.buffers.starts w.sweep.commands w.sweep.next.0))

-- Round after round, from where w stands until the sweep has ended, where the buffers came as b. n is fuel, spent by each test of the mark that
-- it has ended. From a fresh record 65,537 are enough, whatever the drive: a round that nothing refuses counts as a command, and with 65,536
-- commands a record takes nothing more (26). So the first line is never reached, and more fuel changes nothing (`run_enough`).
unfoldable pub rounds : (n : ℕ) → Drive → (b : Buffers) (w : State) → Ending
rounds zero m b w = failing b (refuse 26)
rounds (suc n) m b w = elim w.sweep.ended [ true ↦ succeeding w | false ↦ unless (round_fault m w) (failing b) (rounds n m b (rounded m w)) ]

-- ---- the bench sweep

-- before any round: the sheet's numbers, 21, 22, then 12: the response buffer, of `room` bytes, has fewer than C
unfoldable pub first_fault : (s : Sheet) (rt a room : ℕ) → Refusal
first_fault s rt a room =
    verdict s or_else
    start_rule rt a or_else
    refuse 12 if ltb room (most a) else
    accept

-- the bench sweep of the sheet s: all rounds from a fresh record
unfoldable pub benched : (s : Sheet) (rt a : ℕ) → Buffers → Ending
benched s rt a b = unless (first_fault s rt a (length b.response)) (failing b) (rounds 65537 (meaning s) b (state (fresh rt a) b))
