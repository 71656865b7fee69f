use Rattle.std.proofs.Common.{ap, arith}
use Rattle.log_answers.specs.declared.stop.Stop.{Stop}
use Rattle.log_answers.proofs.Calm.{calm_so}
use Rattle.batch_answers.proofs.ReadingSteps.{turn_more, turn_ends, turn_fails}
use Rattle.batch_answers.proofs.reading.take_turn.Goals as goal

pub returns-in-Ok-clause-turn : goal.returns-in-Ok-clause-turn
returns-in-Ok-clause-turn g c aim bytes text known =
    turn_more (λ h. (goal.Watch-dyn g (h.watch.vtable, h.watch.value)).answers h.watch.value) aim c.args.checking.now.each_batch (g.S.Source.left c.args.log.now) (g.S.Source.left c.read.new.self)
    (g.O.Sink.held c.args.out.now) (g.O.Sink.held c.take_piece.new.out) (g.S.Source.faults c.args.log.now)
    (g.S.Source.faults c.read.new.self) (g.O.Sink.faults c.args.out.now) (g.O.Sink.faults c.take_piece.new.out) bytes text
    c.take_piece.new.reader c.take_piece.new.checking.check c.read.new.into c.in-Ok.count c.take_piece.result
    (λ e. absurd (omega (arith, e, c.in-Ok.count-test))) c.in-Ok.ensures.bound.0 c.in-Ok.ensures.bytes.0
    c.in-Ok.ensures.cause.later (c.take_piece.ensures.piece aim bytes text known)

pub returns-in-Ok-eq0-clause-turn : goal.returns-in-Ok-eq0-clause-turn
returns-in-Ok-eq0-clause-turn g c aim bytes text known =
    turn_ends (λ h. (goal.Watch-dyn g (h.watch.vtable, h.watch.value)).answers h.watch.value) aim c.args.checking.now.each_batch (g.S.Source.left c.args.log.now) (g.S.Source.left c.read.new.self)
    (g.O.Sink.held c.args.out.now) (g.S.Source.faults c.args.log.now) (g.S.Source.faults c.read.new.self)
    (g.O.Sink.faults c.args.out.now) bytes text c.finish.new.reader c.args.checking.now.check c.read.new.into
    c.in-Ok-eq0.field-0 c.finish.result (omega (arith, c.in-Ok-eq0.field-0-test))
    (omega (arith, c.requires.room, c.read.auto.into)) c.in-Ok-eq0.ensures.bytes c.in-Ok-eq0.ensures.cause.later
    (c.finish.ensures aim bytes text known (g.O.Sink.faults c.args.out.now))

pub returns-in-Err-clause-turn : goal.returns-in-Err-clause-turn
returns-in-Err-clause-turn g c aim bytes text known =
    turn_fails (λ h. (goal.Watch-dyn g (h.watch.vtable, h.watch.value)).answers h.watch.value) aim c.args.checking.now.each_batch (g.S.Source.left c.args.log.now) (g.S.Source.left c.read.new.self)
    (g.O.Sink.held c.args.out.now) (g.S.Source.faults c.args.log.now) (g.S.Source.faults c.read.new.self)
    (g.O.Sink.faults c.args.out.now) bytes text c.args.reader.now c.args.checking.now.check c.stop.result known
    c.in-Err.ensures.bytes c.in-Err.ensures.cause.later c.in-Err.ensures.cause.failed c.stop.ensures

pub returns-in-Ok-clause-calm : goal.returns-in-Ok-clause-calm
returns-in-Ok-clause-calm g c = calm_so (g.S.Source.faults c.args.log.now) (g.S.Source.faults c.read.new.self) c.take_piece.result c.in-Ok.ensures.calm

pub returns-in-Ok-eq0-clause-calm : goal.returns-in-Ok-eq0-clause-calm
returns-in-Ok-eq0-clause-calm g c = calm_so (g.S.Source.faults c.args.log.now) (g.S.Source.faults c.read.new.self) c.finish.result c.in-Ok-eq0.ensures.calm

pub returns-in-Err-clause-calm : goal.returns-in-Err-clause-calm
returns-in-Err-clause-calm g c other = absurd (other (ap (λ (s : Stop). s.cause) c.stop.ensures))
