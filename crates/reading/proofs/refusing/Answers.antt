-- `reading::refusing` meets its contract: it is the definition.
use mathlib.Core.Path.{refl}
use Rattle.text.specs.Reading.{nothing_read}
use Rattle.reading.specs.inner.Tally.{refusal}
use Rattle.reading.proofs.refusing.Goals as goal

pub returns : goal.returns
unfolding refusal nothing_read
returns c = refl
