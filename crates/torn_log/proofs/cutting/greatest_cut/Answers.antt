use Rattle.std.proofs.Common.{map, inl, inr, arith}
use Rattle.std.proofs.lemmas.Bool.{cases_Bool}
use Rattle.vector_clock.specs.Events.{no_events}
use Rattle.torn_log.specs.Items.{with_items}
use Rattle.torn_log.proofs.Passing.{counts_long}
use Rattle.torn_log.proofs.Lowering.{bounds_first, round_by, round_bounds, round_less, round_last, round_long}
use Rattle.torn_log.proofs.cutting.greatest_cut.Goals as goal

pub rounds-init : goal.rounds-init
rounds-init g c = record {
  long = counts_long c.args.procs (map g.P.Part.item c.args.parts.now) c.in_ok-cut.cut c.in_ok-cut.ensures;
  sends = c.in_ok-sends.ensures;
  bounds = bounds_first (with_items (no_events c.args.procs) (map g.P.Part.item c.args.parts.now)) c.in_ok-cut.cut c.in_ok-cut.ensures;
}

pub rounds-preserved : goal.rounds-preserved
rounds-preserved g c =
    let round = round_by c.in_ok-sends.sends (map g.P.Part.item c.args.parts.now) c.args.procs c.rounds.invariant.long c.rounds.invariant.sends c.rounds.invariant.bounds c.in_ok-lowered.ensures in
    record {
      long = round_long c.rounds.invariant.long c.rounds.invariant.bounds round;
      sends = c.rounds.invariant.sends;
      bounds = round_bounds round;
    }

pub rounds-smaller : goal.rounds-smaller
rounds-smaller g c =
    let round = round_by c.in_ok-sends.sends (map g.P.Part.item c.args.parts.now) c.args.procs c.rounds.invariant.long c.rounds.invariant.sends c.rounds.invariant.bounds c.in_ok-lowered.ensures in
    elim (cases_Bool c.in_ok-lowered.lowered) [
      | inl on ↦ round_less round on
      | inr off ↦ absurd (grind (arith, c.if-not-lowered.false, off))
    ]

pub returns-then-not-lowered : goal.returns-then-not-lowered
returns-then-not-lowered g c =
    let round = round_by c.in_ok-sends.sends (map g.P.Part.item c.args.parts.now) c.args.procs c.rounds.invariant.long c.rounds.invariant.sends c.rounds.invariant.bounds c.in_ok-lowered.ensures in
    elim (cases_Bool c.in_ok-lowered.lowered) [
      | inl on ↦ absurd (grind (arith, c.if-not-lowered.true, on))
      | inr off ↦ round_last round off
    ]
