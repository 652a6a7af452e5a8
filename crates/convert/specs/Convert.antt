-- A drive sheet in the other layout. Assumes nothing: these are definitions.
use Rattle.std.specs.Prelude.{List, ℕ}
use Rattle.lent.specs.Maker.{Outcome, makes}
use Rattle.layout.specs.declared.Layout.{Layout}
use Rattle.layout.specs.Layout.{Sheet}
use Rattle.layout.specs.Contents.{laid}
use Rattle.sheet.specs.Check.{verdict}

-- the answer, and the buffer d afterwards: what is refused of the sheet s, then 42 where d is too short; else its bytes as l lays them out
unfoldable pub converted : Layout → (s : Sheet) (d : List ℕ) → Outcome
converted l s d = makes (verdict s) 42 (laid l s).bytes d
