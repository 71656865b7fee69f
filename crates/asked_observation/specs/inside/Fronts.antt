-- The first disjuncts of a list.
use Rattle.std.specs.Prelude.{◌≤◌, List, length}
use Rattle.pota_base.specs.Limits.{most_disjuncts, most_parts}
use Rattle.rctl_class.specs.NamedParts.{NamedPiece, AllFit, disjuncts_count}

-- no more disjuncts and parts than a formula that was read can have, and each such as it can have
pub record AreFew (ds : List (List NamedPiece)) : Type 0 where
  pub fit : AllFit ds
  pub few : length ds ≤ most_disjuncts
  pub parts : disjuncts_count ds ≤ most_parts
