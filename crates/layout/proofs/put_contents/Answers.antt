-- `layout::put_contents` meets its contract: row behind row, or column behind column.
use borrow.Author.Rules.{rules}
use Rattle.lent.proofs.Laws.{then}
use Rattle.layout.specs.Contents.{number_bytes, flags_byte, length_byte, offset_bytes, row_bytes, contents}
use Rattle.layout.proofs.put_contents.Goals as goal

pub returns-in-Rows : goal.returns-in-Rows
unfolding contents
returns-in-Rows c = rw (c.in-Rows.is, contents) (c.put_each.ensures row_bytes (λ o a e r q w. search rules))

pub returns-in-Columns : goal.returns-in-Columns
unfolding contents
returns-in-Columns c = rw (c.in-Columns.is, contents)
    (then (then (then (c.put_each-a.ensures number_bytes (λ o a e r q w. search rules)) (c.put_each-b.ensures flags_byte (λ o a e r q w. search rules))) (c.put_each-c.ensures length_byte (λ o a e r q w. search rules))) (c.put_each-in-Columns.ensures offset_bytes (λ o a e r q w. search rules)))
