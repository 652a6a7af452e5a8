-- 36 where a row's twelve bytes tell the bits of a body over and over, and where byte 7 counts them: by words. Assumes nothing: these are definitions.
use Rattle.std.specs.Prelude.{List, ℕ, ◌+◌, ◌%◌, length, take, drop, get_or}
use Rattle.fields.specs.Field.{field}
use Rattle.refusal.specs.declared.Refusal.{Refusal}
use Rattle.refusal.specs.First.{◌or_else◌, first_of}
use Rattle.legal.specs.declared.Masks.{Masks}
use Rattle.legal.specs.Legal.{mask_bytes}
use Rattle.legal.specs.Bodies.{reserved_rule}

unfoldable pub periodic_at : Masks → (body : List ℕ) → ℕ → Refusal
periodic_at masks body k = reserved_rule (get_or body k 0) (get_or (mask_bytes masks) (k % 12) 0)

-- three words under their masks, and those at a place
unfoldable pub words_rule : Masks → (a b c : ℕ) → Refusal
words_rule masks a b c = reserved_rule a masks.0 or_else reserved_rule b masks.1 or_else reserved_rule c masks.2

unfoldable pub words_at : Masks → (body : List ℕ) (k : ℕ) → Refusal
words_at masks body k = words_rule masks (field 4 body k) (field 4 body (k + 4)) (field 4 body (k + 8))

-- a pad byte
unfoldable pub pad_at : List ℕ → ℕ → Refusal
pad_at pad k = reserved_rule (get_or pad k 0) 0

-- the first word, then the pad
unfoldable pub counted_fault : (mask : ℕ) → List ℕ → Refusal
counted_fault mask body =
    reserved_rule (field 4 body 0) mask or_else
    (let pad = take (length body) (drop (4 + get_or body 3 0) body) in first_of (pad_at pad) 0 (length pad))
