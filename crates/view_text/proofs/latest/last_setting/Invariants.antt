use Rattle.std.proofs.Common.{◌≡◌, ◌≤◌, [], get_or}
use Rattle.view_text.specs.Latest.{last_setting}
use Rattle.view_text.proofs.latest.last_setting.Given as goal

abbrev pub invariant-loop-position : goal.invariant-loop-position
invariant-loop-position l = (l.position ≤ l.events) × (last_setting (get_or l.states.events l.process []) l.variable l.events ≡ last_setting (get_or l.states.events l.process []) l.variable l.position)

abbrev pub decreases-loop-position : goal.decreases-loop-position
decreases-loop-position l = l.position
