-- What demand 3 says of a bench sweep: what it asks for, what it promises, and how the sweep of an accepted sheet can end. Assumes nothing:
-- these are definitions.
use Rattle.std.specs.Prelude.{◌≡◌, Bool, List, [], ◌∷◌, ◌++◌, ℕ, ◌+◌, ◌-◌, ◌*◌, ◌≤◌, ◌<◌, ltb, length, take, drop}
use Rattle.base.specs.Lists.{flat, All}
use Rattle.refusal.specs.First.{refuse, accept}
use Rattle.text.specs.Drive.{Desc, Drive, Asc}
use Rattle.text.specs.Response.{bytes, selected, sent, header_length, most}
use Rattle.text.specs.Reading.{wholes, last_number}
use Rattle.text.specs.Packing.{size, total, groups, joined}
use Rattle.sweep.specs.Sweep.{cut}
use Rattle.bench.specs.Bench.{Buffers, Ending, filled, failing}

-- C - 8: the room behind the header of a response to allocation length a
abbrev pub room : ℕ → ℕ
room a = most a - header_length

-- a descriptor that has room in a response
abbrev pub HasRoom : ℕ → Desc → Type 0
HasRoom a d = size d ≤ room a

-- ---- what is asked for

-- a sweep of the drive m with RT rt and allocation length a, into the buffers b
pub record Premises (m : Drive) (rt a : ℕ) (b : Buffers) : Type 0 where
  -- RT 0 or RT 1, and C is 8 or more
  pub kind : rt < 2
  pub eight : header_length ≤ a
  -- each wanted descriptor has at most C - 8 bytes
  pub small : All (HasRoom a) (selected rt 0 m)
  -- room in the response buffer: C bytes
  pub response_room : most a ≤ length b.response
  -- room in the collecting buffer: all wanted descriptors
  pub collected_room : total (selected rt 0 m) ≤ length b.collected
  -- room in the list of starts: a start for each round, where each round takes as many whole descriptors as C - 8 bytes hold
  pub starts_room : length (groups (room a) 65536 (selected rt 0 m)) ≤ length b.starts

-- ---- what is promised

-- a round from start t that takes the descriptors g, where out has the collected bytes, `before` of them from the rounds before
pub record Round (m : Drive) (rt a : ℕ) (out : List ℕ) (before t : ℕ) (g : List Desc) (more : Bool) : Type 0 where
  -- exactly the whole descriptors that the reading of what is sent for this start and allocation length finds
  pub took : g ≡ wholes (most a) rt t (sent rt t a m)
  -- their bytes stand behind those of the rounds before
  pub stands : take (length (flat bytes g)) (drop before out) ≡ flat bytes g
  -- another round follows exactly if the response is cut
  pub goes : cut (sent rt t a m) ≡ more

-- round by round: the first start is f, each further one is the last number taken plus 1
abbrev pub Honest : (m : Drive) (rt a : ℕ) (out : List ℕ) (before f : ℕ) (starts : List ℕ) (taken : List (List Desc)) → Type 0
Honest m rt a out before f [] [] = Unit {0}
Honest m rt a out before f [] (g ∷ gs) = ⊥
Honest m rt a out before f (t ∷ ts) [] = ⊥
Honest m rt a out before f (t ∷ ts) (g ∷ gs) =
    (t ≡ f) × Round m rt a out before t g (ltb 0 (length ts)) × Honest m rt a out (before + length (flat bytes g)) (last_number g + 1) ts gs

-- the last of a list, z if it is empty
unfoldable pub last_of : ℕ → List ℕ → ℕ
last_of z [] = z
last_of z (t ∷ ts) = last_of t ts

-- o is a successful sweep into the buffers b
pub record Swept (m : Drive) (rt a : ℕ) (b : Buffers) (o : Ending) : Type 0 where
  -- the starts, and what each round took
  pub asked : List ℕ
  pub taken : List (List Desc)
  -- nothing was refused
  pub fine : o.reply.refusal ≡ accept
  -- the command count is the number of starts; they stand at the front of their list, and behind them all is as before
  pub commands : o.reply.commands ≡ length asked
  pub noted : o.buffers.starts ≡ asked ++ drop (length asked) b.starts
  -- the collected bytes are those of the wanted descriptors; they stand at the front of their buffer, and behind them all is as before
  pub count : o.reply.collected ≡ length (flat bytes (selected rt 0 m))
  pub exact : o.buffers.collected ≡ flat bytes (selected rt 0 m) ++ drop (length (flat bytes (selected rt 0 m))) b.collected
  -- round by round, from start 0 on
  pub honest : Honest m rt a o.buffers.collected 0 0 asked taken
  -- together the rounds took each wanted descriptor once, ascending
  pub once : joined taken ≡ selected rt 0 m
  pub ascending : Asc 0 (joined taken)
  -- the response buffer holds the last response, and zeros behind it
  pub last : o.buffers.response ≡ filled (sent rt (last_of 0 asked) a m) b.response
  -- k commands for D bytes: (k - 1) * (C - 8) < 2 * D
  pub few : (o.reply.commands - 1) * room a < 2 * o.reply.collected

-- ---- how it can end, whatever the room

-- the next start behind the descriptors that were collected: the last number plus 1, f if there are none
unfoldable pub next_start : ℕ → List Desc → ℕ
next_start f [] = f
next_start f (d ∷ ds) = last_number (d ∷ ds) + 1

-- success, or one of four refusals with its ground
pub data Ended (m : Drive) (rt a : ℕ) (b : Buffers) (o : Ending) : Type 0 where
  swept : Swept m rt a b o → Ended m rt a b o
  -- 12: the response buffer has fewer than C bytes
  short : o ≡ failing b (refuse 12) → length b.response < most a → Ended m rt a b o
  -- 23: xs were collected, d is the first descriptor that is wanted from the next start on, and it has more than C - 8 bytes; it is the first such one
  long : o ≡ failing b (refuse 23) → (xs : List Desc) (d : Desc) (ys : List Desc)
      → selected rt 0 m ≡ xs ++ d ∷ ys → selected rt (next_start 0 xs) m ≡ d ∷ ys → room a < size d → All (HasRoom a) xs → Ended m rt a b o
  -- 24: the collecting buffer has no room for all wanted descriptors
  narrow : o ≡ failing b (refuse 24) → length b.collected < total (selected rt 0 m) → Ended m rt a b o
  -- 25: the list of starts has no room for all rounds
  many : o ≡ failing b (refuse 25) → length b.starts < length (groups (room a) 65536 (selected rt 0 m)) → Ended m rt a b o
