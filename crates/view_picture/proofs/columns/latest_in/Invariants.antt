use Rattle.std.proofs.Common.{◌≡◌, ◌-◌, [], ◌∷◌}
use Rattle.view_parts.specs.Each.{each_below}
use Rattle.view_picture.specs.Shown.{last_shown}
use Rattle.view_picture.proofs.columns.latest_in.Given as goal

abbrev pub invariant-loop-events : goal.invariant-loop-events
invariant-loop-events l = record {
  latest : l.latest ≡ each_below l.events (λ n. last_shown l.rows l.process n ∷ []);
  last : l.last ≡ last_shown l.rows l.process (l.events - 1);
}
