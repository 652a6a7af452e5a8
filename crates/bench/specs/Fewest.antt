-- How many commands it takes to receive every wanted descriptor whole. Assumes nothing: these are definitions.
use Rattle.std.specs.Prelude.{◌≡◌, ◌⊎◌, true, false, List, [], ◌∷◌, map, ℕ, ◌+◌, ◌-◌, ◌≤◌, leb, length, take}
use Rattle.base.specs.Lists.{All}
use Rattle.text.specs.Drive.{Desc, Drive}
use Rattle.text.specs.Response.{selected, sent, most}
use Rattle.text.specs.Reading.{wholes}
use Rattle.text.specs.Packing.{size, groups}
use Rattle.bench.specs.Bench.{Ending}
use Rattle.bench.specs.Swept.{room}

-- P of one element or more
abbrev pub Some : {A : Type 0} → (A → Type 0) → List A → Type 0
Some P [] = ⊥
Some P (x ∷ xs) = P x ⊎ Some P xs

-- the descriptors that the command from start t, with RT rt and allocation length a, receives whole from the drive m
abbrev pub received_from : (m : Drive) (rt a t : ℕ) → List Desc
received_from m rt a t = wholes (most a) rt t (sent rt t a m)

-- one of the commands with these starts receives d whole
abbrev pub ReceivedBy : (m : Drive) (rt a : ℕ) (starts : List ℕ) → Desc → Type 0
ReceivedBy m rt a starts d = Some (λ (t : ℕ). Some (λ (e : Desc). d ≡ e) (received_from m rt a t)) starts

-- together they receive every wanted descriptor whole; the starts are any numbers, any number of them, in any order
abbrev pub ReceivesAll : (m : Drive) (rt a : ℕ) (starts : List ℕ) → Type 0
ReceivesAll m rt a starts = All (ReceivedBy m rt a starts) (selected rt 0 m)

-- The least number of commands for descriptors of these sizes, in their order, where each command has this room and the first has only `left` of it:
-- each descriptor goes into the present command if it fits, else another one is begun.
unfoldable pub fewest_from : (room left : ℕ) (sizes : List ℕ) → ℕ
fewest_from room left [] = 1
fewest_from room left (n ∷ sizes) = elim (leb n left) [ true ↦ fewest_from room (left - n) sizes | false ↦ 1 + fewest_from room (room - n) sizes ]

abbrev pub fewest : (room : ℕ) (sizes : List ℕ) → ℕ
fewest room sizes = fewest_from room room sizes

-- What is said of a bench sweep o of the drive m: no list of starts is shorter.
pub record Fewest (m : Drive) (rt a : ℕ) (o : Ending) : Type 0 where
  -- whatever list receives all is at least as long as its command count
  pub shortest : (starts : List ℕ) → ReceivesAll m rt a starts → o.reply.commands ≤ length starts
  -- its own starts are such a list, so the count is the least
  pub own : ReceivesAll m rt a (take o.reply.commands o.buffers.starts)
  -- the count depends on C - 8 and the sizes alone; it is that of the rounds that demand 3 asks room for
  pub count : o.reply.commands ≡ fewest (room a) (map size (selected rt 0 m))
  pub rounds : o.reply.commands ≡ length (groups (room a) 65536 (selected rt 0 m))
