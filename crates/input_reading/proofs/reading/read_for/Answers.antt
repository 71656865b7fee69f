use Rattle.std.proofs.Common.{◌≡◌, ◌++◌, refl, ◌∙◌, ap, Ok, arith}
use Rattle.input_reading.proofs.ReadingLaws.{nothing_yet, goes_on, nearer, read_to, short_behind}
use Rattle.input_reading.specs.declared.reading.End.TheVariants as end
use Rattle.input_reading.proofs.reading.read_for.Goals as goal

pub turns-init : goal.turns-init
turns-init g c = record {
  calm = refl;
  room = omega (arith, c.as_mut_slice-room.ensures.len, c.in_ok-buffer.ensures.len);
  so_far = λ aim bytes open_. nothing_yet (g.S.Source.left c.args.source.now) (g.S.Source.faults c.args.source.now) (g.I.IntakeFor.open_for aim c.args.intake.now) bytes open_;
}

pub take_turn-requires-clause-at : goal.take_turn-requires-clause-at
take_turn-requires-clause-at g c =
    let so = c.turns.invariant.so_far c.requires.0 c.requires.1 c.requires.2 in
    (c.requires.0, c.requires.1 ++ so.read, so.open_)

pub turns-smaller : goal.turns-smaller
turns-smaller g c =
    let so = c.turns.invariant.so_far c.requires.0 c.requires.1 c.requires.2 in
    nearer (g.S.Source.left c.args.source.now) (g.S.Source.left c.turns.source) (g.S.Source.left c.take_turn.new.source) (g.S.Source.faults c.args.source.now) (g.S.Source.faults c.turns.source) (g.S.Source.faults c.take_turn.new.source)
    (g.I.IntakeFor.open_for c.requires.0 c.turns.intake) (g.I.IntakeFor.open_for c.requires.0 c.take_turn.new.intake) (g.I.IntakeFor.done_for c.requires.0 c.take_turn.new.intake) (g.I.IntakeFor.room_for c.turns.intake) (g.I.IntakeFor.room_for c.take_turn.new.intake)
    c.requires.1 so c.in-Ok-None.field-0 c.in-Ok-None.field-0-is (c.in-Ok-None.ensures.turn c.requires.0 (c.requires.1 ++ so.read) so.open_)

pub turns-preserved : goal.turns-preserved
turns-preserved g c = record {
  calm = c.in-Ok-None.ensures.calm (λ e. cc) ∙ c.turns.invariant.calm;
  room = omega (arith, c.turns.invariant.room, c.take_turn.auto.room);
  so_far = λ aim bytes open_.
      let so = c.turns.invariant.so_far aim bytes open_ in
      goes_on (g.S.Source.left c.args.source.now) (g.S.Source.left c.turns.source) (g.S.Source.left c.take_turn.new.source) (g.S.Source.faults c.args.source.now) (g.S.Source.faults c.turns.source) (g.S.Source.faults c.take_turn.new.source)
      (g.I.IntakeFor.open_for aim c.turns.intake) (g.I.IntakeFor.open_for aim c.take_turn.new.intake) (g.I.IntakeFor.done_for aim c.take_turn.new.intake) (g.I.IntakeFor.room_for c.turns.intake) (g.I.IntakeFor.room_for c.take_turn.new.intake)
      bytes so c.in-Ok-None.field-0 c.in-Ok-None.field-0-is (c.in-Ok-None.ensures.turn aim (bytes ++ so.read) so.open_);
}

pub returns-in-Ok-Some-clause-reads : goal.returns-in-Ok-Some-clause-reads
returns-in-Ok-Some-clause-reads g c aim bytes open_ =
    let so = c.turns.invariant.so_far aim bytes open_ in
    read_to (g.S.Source.left c.args.source.now) (g.S.Source.left c.turns.source) (g.S.Source.left c.take_turn.new.source) (g.S.Source.faults c.args.source.now) (g.S.Source.faults c.turns.source) (g.S.Source.faults c.take_turn.new.source)
    (g.I.IntakeFor.open_for aim c.turns.intake) (g.I.IntakeFor.open_for aim c.take_turn.new.intake) (g.I.IntakeFor.done_for aim c.take_turn.new.intake) (g.I.IntakeFor.room_for c.turns.intake) (g.I.IntakeFor.room_for c.take_turn.new.intake)
    bytes so c.in-Ok-Some.end c.in-Ok-Some.field-0 c.in-Ok-Some.field-0-is (c.in-Ok-Some.ensures.turn aim (bytes ++ so.read) so.open_)

pub returns-in-Err-clause-short : goal.returns-in-Err-clause-short
returns-in-Err-clause-short g c =
    let so = c.turns.invariant.so_far c.requires.0 c.requires.1 c.requires.2 in
    short_behind (g.S.Source.left c.args.source.now) (g.S.Source.left c.turns.source) (g.S.Source.left c.take_turn.new.source) (g.S.Source.faults c.args.source.now) (g.S.Source.faults c.turns.source) (g.S.Source.faults c.take_turn.new.source)
    (g.I.IntakeFor.open_for c.requires.0 c.turns.intake) (g.I.IntakeFor.open_for c.requires.0 c.take_turn.new.intake) (g.I.IntakeFor.done_for c.requires.0 c.take_turn.new.intake) (g.I.IntakeFor.room_for c.turns.intake) (g.I.IntakeFor.room_for c.take_turn.new.intake)
    c.requires.1 so c.in-Err.ensures.short

pub returns-in-Ok-Some-clause-calm : goal.returns-in-Ok-Some-clause-calm
returns-in-Ok-Some-clause-calm g c other =
    let is = c.in-Ok-Some.field-0-is in
    c.in-Ok-Some.ensures.calm (λ e. other (let same : c.in-Ok-Some.end ≡ end.Failed = cc in ap (λ x. Ok x) same)) ∙ c.turns.invariant.calm

pub returns-in-Err-clause-calm : goal.returns-in-Err-clause-calm
returns-in-Err-clause-calm g c other = c.in-Err.ensures.calm (λ e. cc) ∙ c.turns.invariant.calm
