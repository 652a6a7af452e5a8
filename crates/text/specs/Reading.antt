-- What a received byte string means to the driver. Assumes nothing: these are definitions.
use Rattle.std.specs.Prelude.{true, false, not, ◌&&◌, List, [], ◌∷◌, ℕ, zero, suc, ◌+◌, ◌%◌, ltb, leb, eqb, length, take, drop, get_or}
use Rattle.base.specs.Lists.{flat}
use Rattle.fields.specs.Field.{field}
use Rattle.refusal.specs.declared.Refusal.{Refusal}
use Rattle.text.specs.declared.Reading.{Reading}
use Rattle.refusal.specs.First.{refuse, accept, ◌if◌else◌, ◌or_else◌, unless}
use Rattle.text.specs.Flags.{current}
use Rattle.text.specs.Drive.{Desc}
use Rattle.text.specs.Response.{bytes, header_length, return_limit}

-- the header's fields
unfoldable pub stated_length : List ℕ → ℕ
stated_length s = field 4 s 0

unfoldable pub stated_profile : List ℕ → ℕ
stated_profile s = field 2 s 6

-- where the full response ends: Data Length + 4
abbrev pub stated_end : List ℕ → ℕ
stated_end s = stated_length s + 4

-- 13: RT over 2. 14: under 8 or over 65,534 bytes. 15: Data Length under 4 or no multiple of 4. 16: more bytes than Data Length + 4, or more
-- than the limit (C in a sweep; 65,534, and so no limit of its own, in any other reading)
unfoldable pub header_rule : (limit rt received stated : ℕ) → Refusal
header_rule limit rt received stated =
    refuse 13 if ltb 2 rt else
    refuse 14 if ltb received header_length else
    refuse 14 if ltb return_limit received else
    refuse 15 if ltb stated 4 else
    refuse 15 if not (eqb (stated % 4) 0) else
    refuse 16 if ltb (stated + 4) received else
    refuse 16 if ltb limit received else
    accept

-- the four header bytes of a descriptor at place `at`, where lo is the lowest number allowed (SFN, or one above the number before) and end is
-- Data Length + 4. 17: Additional Length no multiple of 4. 18: number below lo, or with RT 2 not SFN. 19: with RT 1 not current. 20: it ends
-- beyond end
unfoldable pub head_rule : (rt sfn end lo at number flags len : ℕ) → Refusal
head_rule rt sfn end lo at number flags len =
    refuse 17 if not (eqb (len % 4) 0) else
    refuse 18 if ltb number lo else
    refuse 18 if eqb rt 2 && not (eqb number sfn) else
    refuse 19 if eqb rt 1 && not (eqb (current flags) 1) else
    refuse 20 if ltb end (at + 4 + len) else
    accept

-- the descriptor at a place: its number, flags, Additional Length, and all of it
unfoldable pub number_at : List ℕ → ℕ → ℕ
number_at s at = field 2 s at

unfoldable pub flags_at : List ℕ → ℕ → ℕ
flags_at s at = get_or s (at + 2) 0

unfoldable pub length_at : List ℕ → ℕ → ℕ
length_at s at = get_or s (at + 3) 0

unfoldable pub desc_at : List ℕ → ℕ → Desc
desc_at s at = record { number = number_at s at; flags = flags_at s at; body = take (length_at s at) (drop (at + 4) s) }

unfoldable pub head_fault : (rt sfn end : ℕ) (s : List ℕ) (lo at : ℕ) → Refusal
head_fault rt sfn end s lo at = head_rule rt sfn end lo at (number_at s at) (flags_at s at) (length_at s at)

-- what a walk over the descriptors gives: a refusal or none, and the whole descriptors before it
pub record Walked : Type 0 where
  pub fault : Refusal
  pub found : List Desc

abbrev pub stop : Refusal → Walked
stop r = record { fault = r; found = [] }

abbrev pub onward : Desc → Walked → Walked
onward d w = record { fault = w.fault; found = d ∷ w.found }

-- the walk from a place on, at most k descriptors: each whose four header bytes were received is judged, and only whole ones are found
unfoldable pub walk : (k rt sfn end : ℕ) (s : List ℕ) (lo at : ℕ) → Walked
walk zero rt sfn end s lo at = stop accept
walk (suc k) rt sfn end s lo at =
    elim (leb (at + 4) (length s)) [
      | true ↦ unless (head_fault rt sfn end s lo at) stop
          elim (leb (at + 4 + length_at s at) (length s)) [
            | true ↦ onward (desc_at s at) (walk k rt sfn end s (number_at s at + 1) (at + 4 + length_at s at))
            | false ↦ stop accept
          ]
      | false ↦ stop accept
    ]

-- the walk over a whole response: each step takes 4 bytes or more, so as many steps as bytes are enough
unfoldable pub walked : (rt sfn : ℕ) (s : List ℕ) → Walked
walked rt sfn s = walk (length s) rt sfn (stated_end s) s sfn header_length

-- the first refusal of a reading
unfoldable pub read_fault : (limit rt sfn : ℕ) (s : List ℕ) → Refusal
read_fault limit rt sfn s = header_rule limit rt (length s) (stated_length s) or_else (walked rt sfn s).fault

-- a refusal, every other field 0; and what an accepted reading gives: profile, Data Length, count of whole descriptors, the place behind the
-- last (8 if none), complete or cut
unfoldable pub nothing_read : Refusal → Reading
nothing_read r = record { refusal = r; profile = record { 0 = 0 }; data_length = 0; count = 0; end = 0; complete = false }

unfoldable pub taken : List ℕ → List Desc → Reading
taken s ds = record {
  refusal = accept;
  profile = record { 0 = stated_profile s };
  data_length = stated_length s;
  count = length ds;
  end = header_length + length (flat bytes ds);
  complete = eqb (length s) (stated_end s);
}

-- the reading of a response to RT rt from sfn
unfoldable pub reading : (limit rt sfn : ℕ) (s : List ℕ) → Reading
reading limit rt sfn s = unless (read_fault limit rt sfn s) nothing_read (taken s (walked rt sfn s).found)

-- the whole descriptors of a response, none where it is refused
unfoldable pub wholes : (limit rt sfn : ℕ) (s : List ℕ) → List Desc
wholes limit rt sfn s = unless (read_fault limit rt sfn s) (λ r. []) (walked rt sfn s).found

-- the number of the last descriptor, 0 if there is none
unfoldable pub last_number : List Desc → ℕ
last_number [] = 0
last_number (d ∷ []) = d.number
last_number (d ∷ e ∷ ds) = last_number (e ∷ ds)
