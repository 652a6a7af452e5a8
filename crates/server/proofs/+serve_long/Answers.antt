-- `server::serve_long` lends its arrays as they are, and calls itself fewer times each time. Assumes nothing.
use Rattle.server.proofs.Long.{lent, one_less}
use Rattle.server.proofs.+serve_long.Goals as goal

pub slice_bounds-serve_input-end : goal.slice_bounds-serve_input-end
slice_bounds-serve_input-end t c = lent 17039357

pub slice_bounds-serve_input-end-2 : goal.slice_bounds-serve_input-end-2
slice_bounds-serve_input-end-2 t c = lent 17039356

pub overflow_sub-again : goal.overflow_sub-again
overflow_sub-again t c = c.if-again-gt0.true

pub serve_long-requires : goal.serve_long-requires
serve_long-requires t c = (one_less c.args.again t c.decreases c.if-again-gt0.true, tt)
