use Rattle.std.proofs.Common.{refl, ◌∙◌, arith}
use Rattle.batch_answers.proofs.ReadingSteps.{begins, may_turn, turns_on, turns_nearer, reads_all, reads_stop}
use Rattle.batch_answers.proofs.reading.read_log.Goals as goal

pub turns-init : goal.turns-init
turns-init g c = record {
  calm = refl;
  going =
      begins (λ h. (goal.Watch-dyn g (h.watch.vtable, h.watch.value)).answers h.watch.value) (g.S.Source.left c.args.log.now) (g.O.Sink.held c.args.out.now) (g.S.Source.faults c.args.log.now)
      (g.O.Sink.faults c.args.out.now) c.args.checking.now.each_batch c.args.checking.now.check c.new-reader.result
      c.as_mut_slice-room.result.now c.new-reader.ensures (omega (arith, c.as_mut_slice-room.ensures.len, c.in-Ok.ensures.len));
}

pub take_turn-requires-clause-judged : goal.take_turn-requires-clause-judged
take_turn-requires-clause-judged g c κs lives =
    may_turn (λ h. (goal.Watch-dyn g (h.watch.vtable, h.watch.value)).answers h.watch.value) (g.S.Source.left c.args.log.now) (g.O.Sink.held c.args.out.now) (g.S.Source.faults c.args.log.now)
    (g.O.Sink.faults c.args.out.now) c.args.checking.now.each_batch c.args.checking.now.check (g.S.Source.left c.turns.log)
    (g.O.Sink.held c.turns.out) (g.S.Source.faults c.turns.log) (g.O.Sink.faults c.turns.out) c.turns.checking.each_batch
    c.turns.reader c.turns.checking.check c.turns.room c.turns.invariant.going c.requires

pub turns-smaller : goal.turns-smaller
turns-smaller g c =
    turns_nearer (λ h. (goal.Watch-dyn g (h.watch.vtable, h.watch.value)).answers h.watch.value) (g.S.Source.left c.args.log.now) (g.O.Sink.held c.args.out.now) (g.S.Source.faults c.args.log.now)
    (g.O.Sink.faults c.args.out.now) c.args.checking.now.each_batch c.args.checking.now.check (g.S.Source.left c.turns.log)
    (g.O.Sink.held c.turns.out) (g.S.Source.faults c.turns.log) (g.O.Sink.faults c.turns.out) c.turns.checking.each_batch
    c.turns.reader c.turns.checking.check c.turns.room c.turns.invariant.going (g.S.Source.left c.take_turn.new.log)
    (g.O.Sink.held c.take_turn.new.out) (g.S.Source.faults c.take_turn.new.log) (g.O.Sink.faults c.take_turn.new.out)
    c.take_turn.new.checking.each_batch c.take_turn.new.reader c.take_turn.new.checking.check c.take_turn.ensures.each
    c.in-Ok-More.field-0 c.in-Ok-More.field-0-is c.in-Ok-More.ensures.turn c.requires

pub turns-preserved : goal.turns-preserved
turns-preserved g c = record {
  calm = let is = c.in-Ok-More.field-0-is in c.in-Ok-More.ensures.calm ∙ c.turns.invariant.calm;
  going =
      turns_on (λ h. (goal.Watch-dyn g (h.watch.vtable, h.watch.value)).answers h.watch.value) (g.S.Source.left c.args.log.now) (g.O.Sink.held c.args.out.now) (g.S.Source.faults c.args.log.now)
      (g.O.Sink.faults c.args.out.now) c.args.checking.now.each_batch c.args.checking.now.check (g.S.Source.left c.turns.log)
      (g.O.Sink.held c.turns.out) (g.S.Source.faults c.turns.log) (g.O.Sink.faults c.turns.out) c.turns.checking.each_batch
      c.turns.reader c.turns.checking.check c.turns.room c.turns.invariant.going (g.S.Source.left c.take_turn.new.log)
      (g.O.Sink.held c.take_turn.new.out) (g.S.Source.faults c.take_turn.new.log) (g.O.Sink.faults c.take_turn.new.out)
      c.take_turn.new.checking.each_batch c.take_turn.new.reader c.take_turn.new.checking.check c.take_turn.ensures.each
      c.in-Ok-More.field-0 c.take_turn.new.room c.take_turn.auto.room c.in-Ok-More.field-0-is c.in-Ok-More.ensures.turn;
}

pub returns-in-Ok-End-clause-log : goal.returns-in-Ok-End-clause-log
returns-in-Ok-End-clause-log g c aim is =
    reads_all (λ h. (goal.Watch-dyn g (h.watch.vtable, h.watch.value)).answers h.watch.value) (g.S.Source.left c.args.log.now) (g.O.Sink.held c.args.out.now) (g.S.Source.faults c.args.log.now)
    (g.O.Sink.faults c.args.out.now) c.args.checking.now.each_batch c.args.checking.now.check (g.S.Source.left c.turns.log)
    (g.O.Sink.held c.turns.out) (g.S.Source.faults c.turns.log) (g.O.Sink.faults c.turns.out) c.turns.checking.each_batch
    c.turns.reader c.turns.checking.check c.turns.room c.turns.invariant.going (g.S.Source.left c.take_turn.new.log)
    (g.O.Sink.held c.take_turn.new.out) (g.S.Source.faults c.take_turn.new.log) (g.O.Sink.faults c.take_turn.new.out)
    c.take_turn.new.checking.each_batch c.take_turn.new.reader c.take_turn.new.checking.check c.take_turn.ensures.each
    _ c.in-Ok-End.field-0 c.in-Ok-End.field-0-is c.in-Ok-End.ensures.turn aim is

pub returns-in-Err-clause-log : goal.returns-in-Err-clause-log
returns-in-Err-clause-log g c aim is =
    reads_stop (λ h. (goal.Watch-dyn g (h.watch.vtable, h.watch.value)).answers h.watch.value) (g.S.Source.left c.args.log.now) (g.O.Sink.held c.args.out.now) (g.S.Source.faults c.args.log.now)
    (g.O.Sink.faults c.args.out.now) c.args.checking.now.each_batch c.args.checking.now.check (g.S.Source.left c.turns.log)
    (g.O.Sink.held c.turns.out) (g.S.Source.faults c.turns.log) (g.O.Sink.faults c.turns.out) c.turns.checking.each_batch
    c.turns.reader c.turns.checking.check c.turns.room c.turns.invariant.going (g.S.Source.left c.take_turn.new.log)
    (g.O.Sink.held c.take_turn.new.out) (g.S.Source.faults c.take_turn.new.log) (g.O.Sink.faults c.take_turn.new.out)
    c.take_turn.new.checking.each_batch c.take_turn.new.reader c.take_turn.new.checking.check c.take_turn.ensures.each
    c.in-Err.stop c.in-Err.ensures.turn aim is

pub returns-in-Ok-End-clause-calm : goal.returns-in-Ok-End-clause-calm
returns-in-Ok-End-clause-calm g c = c.in-Ok-End.ensures.calm ∙ c.turns.invariant.calm

pub returns-in-Err-clause-calm : goal.returns-in-Err-clause-calm
returns-in-Err-clause-calm g c other = c.in-Err.ensures.calm other ∙ c.turns.invariant.calm
