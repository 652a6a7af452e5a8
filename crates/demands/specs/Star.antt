-- The starred lines of the paper as one table. Assumes nothing: these are definitions.
use Rattle.std.specs.Prelude.{List, [], ◌∷◌, ◌++◌, ℕ, take, replicate}
use Rattle.text.specs.Drive.{bit}
use Rattle.text.specs.Response.{sent}
use Rattle.layout.specs.Layout.{Sheet}
use Rattle.sheet.specs.Meaning.{meaning}
use Rattle.lent.specs.Maker.{Outcome}
use Rattle.responder.specs.Answer.{answered}
use Rattle.bench.specs.Bench as Swept
use Rattle.bench.specs.Bench.{buffers, benched}
use Rattle.needs.specs.Judge.{Said, judged}
use Rattle.demands.specs.Recorder.{sheet_e, sheet_e', command}

-- what a definition gives, and what the paper's line says, as numbers
pub record Star : Type 0 where
  pub gives : List ℕ
  pub paper : List ℕ

-- an answer of the box in numbers: the refusal, the count, and that many bytes of the buffer
unfoldable pub shown : Outcome → List ℕ
shown o = o.made.refusal.number ∷ o.made.count ∷ take o.made.count o.buffer

-- the box's answer to RT, SFN and allocation length, in a buffer of 64 bytes
unfoldable pub asked : (s : Sheet) (rt sfn a : ℕ) → List ℕ
asked s rt sfn a = shown (answered s (command rt sfn a) (replicate 64 0xEE))

-- a bench sweep in numbers: the refusal, and the starts that were written
unfoldable pub swept_numbers : Swept.Ending → List ℕ
swept_numbers o = o.reply.refusal.number ∷ take o.reply.commands o.buffers.starts

-- the bench sweep of a sheet with RT 0, with room for 64 bytes and 8 starts
unfoldable pub swept : (s : Sheet) (a : ℕ) → List ℕ
swept s a = swept_numbers (benched s 0 a (buffers (replicate 64 0xEE) (replicate 64 0xEE) (replicate 8 0xEE)))

-- a judgement in numbers: the number, whether it conforms, what is wrong, and the feature if one is named
unfoldable pub judged_numbers : Said → List ℕ
judged_numbers j = j.refusal.number ∷ bit j.conforms ∷ j.wrong ∷ j.feature

unfoldable pub stars : List Star
stars =
    -- RT 0, SFN 0, A 44
    record {
      gives = asked sheet_e 0 0 44;
      paper = (0 ∷ 44 ∷ [])
          ++ (0x00 ∷ 0x00 ∷ 0x00 ∷ 0x28 ∷ 0x00 ∷ 0x00 ∷ 0x00 ∷ 0x12 ∷ [])
          ++ (0x00 ∷ 0x00 ∷ 0x03 ∷ 0x08 ∷ 0x00 ∷ 0x12 ∷ 0x01 ∷ 0x00 ∷ 0x00 ∷ 0x10 ∷ 0x00 ∷ 0x00 ∷ [])
          ++ (0x00 ∷ 0x01 ∷ 0x03 ∷ 0x04 ∷ 0x00 ∷ 0x00 ∷ 0x00 ∷ 0x02 ∷ [])
          ++ (0x00 ∷ 0x03 ∷ 0x03 ∷ 0x04 ∷ 0x29 ∷ 0x00 ∷ 0x00 ∷ 0x00 ∷ [])
          ++ (0x00 ∷ 0x1F ∷ 0x01 ∷ 0x00 ∷ [])
          ++ (0x01 ∷ 0x05 ∷ 0x03 ∷ 0x00 ∷ []);
    }
    -- A 0: none. A 4
    ∷ record { gives = asked sheet_e 0 0 0; paper = 0 ∷ 0 ∷ [] }
    ∷ record { gives = asked sheet_e 0 0 4; paper = 0 ∷ 4 ∷ 0x00 ∷ 0x00 ∷ 0x00 ∷ 0x28 ∷ [] }
    -- RT 0, SFN 0105h: 12 bytes, Data Length 8. SFN 0106h: 8 bytes, Data Length 4
    ∷ record { gives = asked sheet_e 0 0x0105 44; paper = 0 ∷ 12 ∷ 0 ∷ 0 ∷ 0 ∷ 8 ∷ 0 ∷ 0 ∷ 0x00 ∷ 0x12 ∷ 0x01 ∷ 0x05 ∷ 0x03 ∷ 0x00 ∷ [] }
    ∷ record { gives = asked sheet_e 0 0x0106 44; paper = 0 ∷ 8 ∷ 0 ∷ 0 ∷ 0 ∷ 4 ∷ 0 ∷ 0 ∷ 0x00 ∷ 0x12 ∷ [] }
    -- RT 2, SFN 2: 8 bytes, Data Length 4
    ∷ record { gives = asked sheet_e 2 2 44; paper = 0 ∷ 8 ∷ 0 ∷ 0 ∷ 0 ∷ 4 ∷ 0 ∷ 0 ∷ 0x00 ∷ 0x12 ∷ [] }
    -- RT 1 from 0 with 001Fh's flags made 00h: Data Length 36
    ∷ record { gives = take 6 (asked sheet_e' 1 0 44); paper = 0 ∷ 40 ∷ 0 ∷ 0 ∷ 0 ∷ 36 ∷ [] }
    -- RT 3: 11
    ∷ record { gives = asked sheet_e 3 0 44; paper = 11 ∷ 0 ∷ [] }
    -- sweep, A 20: starts 0, 1, 2, 0020h. A 43: 0, 0020h. A 19: 23
    ∷ record { gives = swept sheet_e 20; paper = 0 ∷ 0 ∷ 1 ∷ 2 ∷ 0x0020 ∷ [] }
    ∷ record { gives = swept sheet_e 43; paper = 0 ∷ 0 ∷ 0x0020 ∷ [] }
    ∷ record { gives = swept sheet_e 19; paper = 23 ∷ [] }
    -- profile 0012h: lowest missing 0002h, and it is absent
    ∷ record { gives = judged_numbers (judged 0x0012 (sent 0 0 44 (meaning sheet_e))); paper = 0 ∷ 0 ∷ 1 ∷ 0x0002 ∷ [] }
    ∷ []
