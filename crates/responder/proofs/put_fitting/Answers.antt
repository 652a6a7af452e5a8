-- `responder::put_fitting` meets its contract: nothing of a sheet that has not its contents, else what the walk of its layout has written.
use native.Mathlib.Omega.{arith}
use Rattle.lent.proofs.Laws.{kept}
use Rattle.responder.proofs.Fitting.{fitted_none}
use Rattle.responder.proofs.put_fitting.Goals as goal

pub returns-then-n-to : goal.returns-then-n-to
returns-then-n-to c = fitted_none _ _ _ _ _ _

pub returns-then-out-at : goal.returns-then-out-at
returns-then-out-at c = fitted_none _ _ _ _ _ _

pub returns-then-s-profiles_behind : goal.returns-then-s-profiles_behind
returns-then-s-profiles_behind c = fitted_none _ _ _ _ _ _

pub put_rows-requires : goal.put_rows-requires
put_rows-requires c = ((c.feature_count-n.ensures, omega arith), omega arith, omega arith)

pub put_columns-requires : goal.put_columns-requires
put_columns-requires c = ((c.feature_count-n.ensures, omega arith), omega arith, omega arith)

pub shape_of-out-in-Rows : goal.shape_of-out-in-Rows
shape_of-out-in-Rows c = kept c.put_rows.ensures.wrote

pub returns-in-Rows : goal.returns-in-Rows
returns-in-Rows c = rw c.in-Rows.is c.put_rows.ensures

pub shape_of-out-in-Columns : goal.shape_of-out-in-Columns
shape_of-out-in-Columns c = kept c.put_columns.ensures.wrote

pub returns-in-Columns : goal.returns-in-Columns
returns-in-Columns c = rw c.in-Columns.is c.put_columns.ensures
