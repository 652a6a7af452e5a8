-- What the functions inside the bench sweep answer: a round, all rounds. Assumes nothing: these are definitions.
use Rattle.std.specs.Prelude.{◌≡◌, List, ℕ, ◌-◌, ◌≤◌, length, drop, replicate}
use Rattle.base.specs.Lists.{flat}
use Rattle.refusal.specs.declared.Refusal.{Refusal}
use Rattle.refusal.specs.First.{unless}
use Rattle.text.specs.Drive.{Drive}
use Rattle.text.specs.Response.{bytes, selected}
use Rattle.sweep.specs.declared.Sweep.{Sweep}
use Rattle.bench.specs.Bench.{Buffers, State, Ending, failing, succeeding, round_fault, rounded, rounds}

-- all rounds from where w stands with the buffers as they came
abbrev pub run_from : Drive → State → Ending
run_from m w = rounds 65537 m w.buffers w

-- how many bytes the drive has behind the header for the record's next command
abbrev pub wanted_size : Drive → Sweep → ℕ
wanted_size m w = length (flat bytes (selected w.rt w.next.0 m))

-- only the first n bytes of the buffer d can be dirty: behind them it is zero
pub record Clean (n : ℕ) (d : List ℕ) : Type 0 where
  pub within : n ≤ length d
  pub zero : drop n d ≡ replicate (length d - n) 0

-- the three buffers are as long as they were
pub record SameLengths (was b : Buffers) : Type 0 where
  pub response : length b.response ≡ length was.response
  pub collected : length b.collected ≡ length was.collected
  pub starts : length b.starts ≡ length was.starts

-- a round from `was` that answers r and leaves w
pub record Rounded (m : Drive) (was : State) (r : Refusal) (w : State) : Type 0 where
  pub fault : r ≡ round_fault m was
  pub stands : r.number ≡ 0 → w ≡ rounded m was
  pub kept : SameLengths was.buffers w.buffers

-- all rounds from `was` that answer r and leave w: on a refusal only its number counts
pub record Ran (m : Drive) (was : State) (r : Refusal) (w : State) : Type 0 where
  pub ends : unless r (failing was.buffers) (succeeding w) ≡ run_from m was
  pub kept : SameLengths was.buffers w.buffers
