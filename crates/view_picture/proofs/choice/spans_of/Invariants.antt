use Rattle.std.proofs.Common.{◌≡◌, [], ◌∷◌}
use Rattle.std.specs.Option.{option_copied}
use Rattle.view_parts.specs.Each.{each_below}
use Rattle.view_picture.specs.Choice.{span_of}
use Rattle.view_picture.proofs.choice.spans_of.Given as goal

abbrev pub invariant-loop-process : goal.invariant-loop-process
invariant-loop-process l = l.spans ≡ each_below l.process (λ p. span_of l.states l.tokens l.all l.limit (option_copied l.goal) p ∷ [])
