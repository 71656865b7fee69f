use Rattle.std.proofs.Common.{◌∙◌, ◌++◌, ◌∷◌, [], ap₂, List, ℕ}
use Rattle.trace_gen.proofs.Naming.{names_push}
use Rattle.trace_gen.proofs.whole.names.Goals as goal

pub loop-index-preserved : goal.loop-index-preserved
loop-index-preserved c = c.in_ok-push.ensures.ok ∙ ap₂ (λ (ns : List (List ℕ)) n. ns ++ n ∷ []) c.loop-index.invariant c.in_ok-process_name.ensures ∙ names_push c.loop-index.index
