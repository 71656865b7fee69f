use Rattle.std.proofs.Common.{ℕ, List, [], ◌∷◌, ◌++◌, ap, sym, ◌∙◌, arith}
use Rattle.slice_graph.proofs.Pairs.{range_more}
use Rattle.slice_graph.proofs.slice_pulls.all_processes.Goals as goal

pub loop-process-preserved : goal.loop-process-preserved
loop-process-preserved c = c.in_ok-push.ensures.ok ∙ ap (λ (xs : List ℕ). xs ++ c.loop-process.process ∷ []) c.loop-process.invariant ∙ sym (range_more 0 c.loop-process.process c.loop-process.process (omega arith))
