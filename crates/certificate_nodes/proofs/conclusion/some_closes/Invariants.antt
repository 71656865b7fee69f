use Rattle.std.proofs.Common.{ℕ, ◌+◌, ◌<◌, ◌≤◌, take}
use Rattle.std.specs.Prelude.{sum_by}
use Rattle.run_model.specs.Cut.{initial}
use Rattle.pull_system.specs.System.{IsClosed}
use Rattle.certificate_nodes.specs.Plans.{disjunct_at, system_of}
use Rattle.certificate_nodes.specs.Nodes.{looks_of_disjunct}
use Rattle.certificate_nodes.proofs.conclusion.some_closes.Given as goal

abbrev pub invariant-loop-parts : goal.invariant-loop-parts
invariant-loop-parts g l = record {
  none : (n : ℕ) → n < l.parts-index → IsClosed (system_of l.order l.plan l.slices (disjunct_at l.plan n)) (initial l.order) → ⊥;
  looks : l.steps ≤ l.fn.steps + sum_by (looks_of_disjunct l.order l.plan l.slices) (take l.parts-index l.plan.disjuncts);
}
