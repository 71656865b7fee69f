use Rattle.std.proofs.Common.{ℕ, ◌≡◌, ◌<◌, ◌≤◌, false}
use Rattle.run_model.specs.Cut.{count, IsWithin}
use Rattle.cut_lattice.proofs.Steps.{DoneBelow}
use Rattle.slice_graph.proofs.kept_rows.keep.Given as goal

abbrev pub invariant-loop-process : goal.invariant-loop-process
invariant-loop-process l = record {
  within : l.past ≡ false → (k : ℕ) → k < l.process → count l.vector k ≤ count l.lens k;
  met : IsWithin l.vector l.lens → l.past ≡ false;
  done : DoneBelow (λ (x y : ℕ). x) l.vector l.fn.cut l.cut l.process;
}
