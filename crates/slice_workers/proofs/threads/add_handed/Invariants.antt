use Rattle.std.proofs.Common.{ℕ, ◌≡◌, ◌⊎◌, true, false, slice_index_or}
use Rattle.slice_workers.proofs.threads.add_handed.Given as goal

abbrev pub invariant-loop-process : goal.invariant-loop-process
invariant-loop-process l = (process : ℕ) → slice_index_or l.handed process false ≡ true → (slice_index_or l.fn.handed process false ≡ true) ⊎ (slice_index_or l.more process false ≡ true)
