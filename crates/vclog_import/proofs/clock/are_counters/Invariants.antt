use Rattle.std.proofs.Common.{◌≡◌}
use Rattle.serde_json.specs.View.{members_view}
use Rattle.vclog_import.specs.Clock.{are_counters}
use Rattle.vclog_import.proofs.clock.are_counters.Given as goal

abbrev pub invariant-loop-key : goal.invariant-loop-key
invariant-loop-key l = are_counters (members_view l.members.entries) ≡ are_counters (members_view l._key-iterator)
