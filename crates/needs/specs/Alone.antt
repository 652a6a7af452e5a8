-- What is wrong with one feature, whatever the others have. Assumes nothing: these are definitions.
use Rattle.std.specs.Prelude.{List, ℕ}
use Rattle.refusal.specs.First.{unless}
use Rattle.reading.specs.Places.{descs}
use Rattle.needs.specs.declared.Judgement.TheVariants.{Refused}
use Rattle.needs.specs.Required.{required, column_of}
use Rattle.needs.specs.Judge.{Said, said, wrong_in, lowest_from, judge_fault}

-- of this number alone, the lowest that breaks the profile
unfoldable pub judged_of : (profile feature : ℕ) → List ℕ → Said
judged_of p f s = unless (judge_fault p s) (λ r. said (Refused r)) (lowest_from (wrong_in required (column_of p) (descs s)) f 1)
