use Rattle.std.proofs.Common.{◌≡◌, [], ◌∷◌}
use Rattle.run_model.specs.Cut.{count}
use Rattle.view_parts.specs.Each.{each_below}
use Rattle.view_text.specs.Shown.{kept_at, kept_among, shown_above, limit_of}
use Rattle.view_text.proofs.shown.bounds_of.Given as goal

abbrev pub invariant-loop-process : goal.invariant-loop-process
invariant-loop-process l =
    let s = l.told.states.now in
    let tokens = l.told.tokens.now in
    l.bounds ≡ each_below l.process (λ p. shown_above (kept_at s tokens p) (limit_of l.told.extent (kept_among s tokens l.path.steps)) (count l.path.goal p) ∷ [])
