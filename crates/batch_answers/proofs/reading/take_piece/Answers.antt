use Rattle.batch_answers.specs.Reading.{judgement_in}
use Rattle.batch_answers.proofs.ReadingSteps.{piece_short, piece_follows, piece_stops, piece_faults, piece_passes}
use Rattle.batch_answers.proofs.reading.take_piece.Goals as goal

pub returns-in_default-clause-piece : goal.returns-in_default-clause-piece
returns-in_default-clause-piece g c aim bytes text known =
    piece_short (λ h. (goal.Watch-dyn g (h.watch.vtable, h.watch.value)).answers h.watch.value) aim c.args.checking.now.each_batch (g.O.Sink.held c.args.out.now) (g.O.Sink.faults c.args.out.now)
    c.args.reader.now c.feed.new.self c.args.checking.now.check c.args.checking.now.check bytes c.args.piece.now text
    c.without_memory.result known c.without_memory.ensures

pub take_all-requires-after_bounds : goal.take_all-requires-after_bounds
take_all-requires-after_bounds g c κs lives =
    let aim = c.requires.0 in
    let bytes = c.requires.1 in
    let text = c.requires.2 in
    let known = c.requires.3 in (
      aim,
      judgement_in aim bytes,
      text,
      known.stands,
      piece_follows (λ h. (goal.Watch-dyn g (h.watch.vtable, h.watch.value)).answers h.watch.value) aim c.args.checking.now.each_batch c.args.reader.now c.feed.new.self c.args.checking.now.check bytes
          c.args.piece.now text c.in-Ok.fed known c.in-Ok.ensures.read,
    )

pub returns-in-Err-clause-piece : goal.returns-in-Err-clause-piece
returns-in-Err-clause-piece g c aim bytes text known =
    let each = c.args.checking.now.each_batch in
    let follows = piece_follows (λ h. (goal.Watch-dyn g (h.watch.vtable, h.watch.value)).answers h.watch.value) aim each c.args.reader.now c.feed.new.self c.args.checking.now.check bytes c.args.piece.now text c.in-Ok.fed known c.in-Ok.ensures.read in
    piece_stops (λ h. (goal.Watch-dyn g (h.watch.vtable, h.watch.value)).answers h.watch.value) aim each c.args.reader.now c.feed.new.self c.args.checking.now.check bytes c.args.piece.now text
    c.in-Ok.fed known c.in-Ok.ensures.read (g.O.Sink.held c.args.out.now) (g.O.Sink.held c.take_all.new.out)
    (g.O.Sink.faults c.args.out.now) (g.O.Sink.faults c.take_all.new.out) c.take_all.new.self.check c.in-Err.stop
    (c.in-Err.ensures.items aim (judgement_in aim bytes) text known.stands follows)

pub returns-in-Some-clause-piece : goal.returns-in-Some-clause-piece
returns-in-Some-clause-piece g c aim bytes text known =
    let each = c.args.checking.now.each_batch in
    let follows = piece_follows (λ h. (goal.Watch-dyn g (h.watch.vtable, h.watch.value)).answers h.watch.value) aim each c.args.reader.now c.feed.new.self c.args.checking.now.check bytes c.args.piece.now text c.in-Ok.fed known c.in-Ok.ensures.read in
    piece_faults (λ h. (goal.Watch-dyn g (h.watch.vtable, h.watch.value)).answers h.watch.value) aim each c.args.reader.now c.feed.new.self c.args.checking.now.check bytes c.args.piece.now text
    c.in-Ok.fed known c.in-Ok.ensures.read (g.O.Sink.held c.args.out.now) (g.O.Sink.held c.take_all.new.out)
    (g.O.Sink.faults c.args.out.now) (g.O.Sink.faults c.take_all.new.out) c.take_all.new.self.check
    c.in_default-take_all.field-0 c.in-Some.fault c.stop.result
    (c.in_default-take_all.ensures.items aim (judgement_in aim bytes) text known.stands follows) c.in-Some.is c.stop.ensures

pub returns-in-None-clause-piece : goal.returns-in-None-clause-piece
returns-in-None-clause-piece g c aim bytes text known =
    let each = c.args.checking.now.each_batch in
    let follows = piece_follows (λ h. (goal.Watch-dyn g (h.watch.vtable, h.watch.value)).answers h.watch.value) aim each c.args.reader.now c.feed.new.self c.args.checking.now.check bytes c.args.piece.now text c.in-Ok.fed known c.in-Ok.ensures.read in
    piece_passes (λ h. (goal.Watch-dyn g (h.watch.vtable, h.watch.value)).answers h.watch.value) aim each c.args.reader.now c.feed.new.self c.args.checking.now.check bytes c.args.piece.now text
    c.in-Ok.fed known c.in-Ok.ensures.read (g.O.Sink.held c.args.out.now) (g.O.Sink.held c.take_all.new.out)
    (g.O.Sink.faults c.args.out.now) (g.O.Sink.faults c.take_all.new.out) c.take_all.new.self.check
    c.in_default-take_all.field-0
    (c.in_default-take_all.ensures.items aim (judgement_in aim bytes) text known.stands follows) c.in-None.is
