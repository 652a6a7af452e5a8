-- A captured response to RT 0 from 0 as a drive sheet. Assumes nothing: these are definitions.
use Rattle.std.specs.Prelude.{List, ℕ}
use Rattle.lent.specs.Maker.{Outcome, makes}
use Rattle.reading.specs.Places.{descs}
use Rattle.layout.specs.declared.Layout.TheVariants.{Rows}
use Rattle.layout.specs.Layout.{Sheet}
use Rattle.sheet.specs.Meaning.{sheet_of}
use Rattle.capture.specs.Capture.{captured, capture_fault}

-- the sheet of a captured response, in rows
unfoldable pub sheet_from : List ℕ → Sheet
sheet_from r = sheet_of Rows (captured (descs r))

-- the answer, and the sheet buffer d afterwards: what is refused of the response, then 42 where d is too short for its sheet
unfoldable pub imported : (r d : List ℕ) → Outcome
imported r d = makes (capture_fault r) 42 (sheet_from r).bytes d
