-- Bytes seen as whole lines and a line that is not finished.
use Rattle.std.specs.Prelude.{◌≡◌, ℕ, true, List, []}
use Rattle.event_log.specs.Before.{is_ended}
use Rattle.event_log.specs.inside.Before.{AreFine}
use Rattle.event_log.specs.Moments.{line_now, lines}

-- a text of whole lines without a fault, the last one its `end` line
pub record IsText (past : List ℕ) : Type 0 where
  pub fine : AreFine (lines past)
  pub ended : is_ended (lines past) ≡ true
  pub whole : line_now past ≡ []
