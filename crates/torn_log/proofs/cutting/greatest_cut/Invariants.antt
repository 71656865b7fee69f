use Rattle.std.proofs.Common.{◌≡◌, length, map, sum}
use Rattle.vector_clock.specs.Events.{no_events}
use Rattle.torn_log.specs.Items.{with_items}
use Rattle.torn_log.specs.Sends.{HasSends}
use Rattle.torn_log.specs.Rounds.{BoundsAll}
use Rattle.torn_log.proofs.cutting.greatest_cut.Given as goal

abbrev pub invariant-rounds : goal.invariant-rounds
invariant-rounds g l = record {
  long : length l.cut ≡ l.procs;
  sends : HasSends l.sends (with_items (no_events l.procs) (map g.P.Part.item l.parts));
  bounds : BoundsAll (with_items (no_events l.procs) (map g.P.Part.item l.parts)) l.cut;
}

abbrev pub decreases-rounds : goal.decreases-rounds
decreases-rounds g l = sum l.cut
