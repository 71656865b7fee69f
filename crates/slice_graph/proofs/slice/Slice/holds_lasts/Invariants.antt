use Rattle.std.proofs.Common.{ℕ, ◌<◌}
use Rattle.run_model.specs.Cut.{count}
use Rattle.run_model.specs.Slice.{HasWithin}
use Rattle.slice_graph.specs.Views.{last_row, slice_of}
use Rattle.slice_graph.proofs.slice.Slice.holds_lasts.Given as goal

abbrev pub invariant-loop-process : goal.invariant-loop-process
invariant-loop-process l = (k : ℕ) → k < l.process → HasWithin (last_row (slice_of l.self) k (count l.counts k)) l.counts
