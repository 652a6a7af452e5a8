-- `meanings::put_words` meets its contract: the line of the number, copied; the text is the sentences with their line ends. Assumes nothing.
use mathlib.Core.Path.{◌∙◌}
use Rattle.meanings.specs.Meanings.{sentences}
use Rattle.meanings.proofs.Joined.{joined, sentence_line}
use Rattle.meanings.proofs.put_words.Goals as goal

pub returns : goal.returns
unfolding joined sentences
returns c = rw (← (c.line_of-line.ensures ∙ sentence_line _)) c.copy.ensures
