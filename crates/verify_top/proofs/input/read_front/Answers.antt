use Rattle.std.proofs.Common.{refl}
use Rattle.verify_top.proofs.Fronts.{front_done, still_open, front_ended, front_failed}
use Rattle.verify_top.proofs.input.read_front.Goals as goal

pub read_on-requires : goal.read_on-requires
read_on-requires g c = (c.requires.0, c.new-part.ensures c.requires.0 c.requires.1)

pub cut_off-requires : goal.cut_off-requires
cut_off-requires g c =
    let aim = c.requires.0 in
    let open_ = still_open (λ h. (goal.Watch-dyn g (h.watch.vtable, h.watch.value)).answers h.watch.value) aim (g.S.Source.left c.args.input.now) (g.S.Source.left c.read_on.new.source) (g.S.Source.faults c.args.input.now) (g.S.Source.faults c.read_on.new.source)
    c.read_on.new.part c.in-Ok-Ended.field-0 c.in-Ok-Ended.field-0-is (c.in-Ok-Ended.ensures.reads aim (c.new-part.ensures aim c.requires.1)) in
    (aim, open_.0, open_.1)

pub returns-in-Ok-Done-clause-front : goal.returns-in-Ok-Done-clause-front
returns-in-Ok-Done-clause-front g c aim is =
    front_done (λ h. (goal.Watch-dyn g (h.watch.vtable, h.watch.value)).answers h.watch.value) aim (g.S.Source.left c.args.input.now) (g.S.Source.left c.read_on.new.source) (g.S.Source.faults c.args.input.now) (g.S.Source.faults c.read_on.new.source)
    c.read_on.new.part c.in-Ok-Done.field-0 c.done.result c.in-Ok-Done.field-0-is (c.in-Ok-Done.ensures.reads aim (c.new-part.ensures aim is)) (c.done.ensures aim)

pub returns-in-Ok-Ended-clause-front : goal.returns-in-Ok-Ended-clause-front
returns-in-Ok-Ended-clause-front g c aim is =
    front_ended (λ h. (goal.Watch-dyn g (h.watch.vtable, h.watch.value)).answers h.watch.value) aim (g.S.Source.left c.args.input.now) (g.S.Source.left c.read_on.new.source) (g.S.Source.faults c.args.input.now) (g.S.Source.faults c.read_on.new.source)
    c.read_on.new.part c.in-Ok-Ended.field-0 c.cut_off.result c.in-Ok-Ended.field-0-is (c.in-Ok-Ended.ensures.reads aim (c.new-part.ensures aim is)) (c.cut_off.ensures aim)

pub returns-in-Ok-Failed-clause-front : goal.returns-in-Ok-Failed-clause-front
returns-in-Ok-Failed-clause-front g c aim is =
    front_failed (λ h. (goal.Watch-dyn g (h.watch.vtable, h.watch.value)).answers h.watch.value) aim (g.S.Source.left c.args.input.now) (g.S.Source.left c.read_on.new.source) (g.S.Source.faults c.args.input.now) (g.S.Source.faults c.read_on.new.source)
    c.read_on.new.part c.in-Ok-Failed.field-0 c.in-Ok-Failed.field-0-is (c.in-Ok-Failed.ensures.reads aim (c.new-part.ensures aim is))

pub returns-in-Ok-Done-clause-calm : goal.returns-in-Ok-Done-clause-calm
returns-in-Ok-Done-clause-calm g c other = let is = c.in-Ok-Done.field-0-is in c.in-Ok-Done.ensures.calm (λ e. cc)

pub returns-in-Ok-Ended-clause-calm : goal.returns-in-Ok-Ended-clause-calm
returns-in-Ok-Ended-clause-calm g c other = let is = c.in-Ok-Ended.field-0-is in c.in-Ok-Ended.ensures.calm (λ e. cc)

pub returns-in-Ok-Failed-clause-calm : goal.returns-in-Ok-Failed-clause-calm
returns-in-Ok-Failed-clause-calm g c other = absurd (other refl)

pub returns-in-Err-clause-calm : goal.returns-in-Err-clause-calm
returns-in-Err-clause-calm g c other = c.in-Err.ensures.calm (λ e. cc)
