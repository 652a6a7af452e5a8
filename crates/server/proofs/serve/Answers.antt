-- `server::serve` lends its arrays as they are. Assumes nothing.
use Rattle.std.proofs.Common.{ℕ, sym}
use Rattle.std.proofs.lemmas.List.{length-replicate}
use Rattle.server.proofs.serve.Goals as goal

pub slice_bounds-serve_input-end : goal.slice_bounds-serve_input-end
slice_bounds-serve_input-end c = sym (length-replicate {A = ℕ} 1048577 0)

pub slice_bounds-serve_input-end-2 : goal.slice_bounds-serve_input-end-2
slice_bounds-serve_input-end-2 c = sym (length-replicate {A = ℕ} 1048576 0)
