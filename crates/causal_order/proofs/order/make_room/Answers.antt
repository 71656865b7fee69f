use Rattle.std.proofs.Common.{arith}
use Rattle.causal_order.proofs.Growing.{clocks_within}
use Rattle.causal_order.proofs.order.make_room.Goals as goal

pub count_events-counts-requires-clause-each : goal.count_events-counts-requires-clause-each
count_events-counts-requires-clause-each c = clocks_within _ c.args.events.now (omega (arith, c.requires.procs, c.requires.most)) c.requires.each
