-- `joiner::main` lends its arrays as they are. Assumes nothing.
use Rattle.std.proofs.Common.{ℕ, sym}
use Rattle.std.proofs.lemmas.List.{length-replicate}
use Rattle.joiner.proofs.main.Goals as goal

pub slice_bounds-join-end : goal.slice_bounds-join-end
slice_bounds-join-end c = sym (length-replicate {A = ℕ} 65535 0)

pub slice_bounds-join-end-2 : goal.slice_bounds-join-end-2
slice_bounds-join-end-2 c = sym (length-replicate {A = ℕ} 1048576 0)
