use Rattle.std.proofs.Common.{arith}
use Rattle.witness.proofs.TwinSteps.{later_own, later_other, later_none}
use Rattle.witness.proofs.twins.HasLaterEventTest.test.Goals as goal

pub returns-then-row-event : goal.returns-then-row-event
returns-then-row-event c =
    let t = c.args.self.now in
    later_own t.order.now t.slice.now c.args.event c.words-row.result.now c.requires.0 c.requires.1 c.words-row.ensures.words c.if-row-event.true

pub returns-then-last_has : goal.returns-then-last_has
returns-then-last_has c =
    let t = c.args.self.now in
    later_other t.order.now t.slice.now c.args.event c.words-row.result.now c.requires.0 c.requires.1 c.words-row.ensures.words c.later.process (omega arith) (c.last_has.ensures.0 c.if-last_has.true)

pub returns : goal.returns
returns c =
    let t = c.args.self.now in
    later_none t.order.now t.slice.now c.args.event c.words-row.result.now c.requires.0 c.requires.1 c.words-row.ensures.words c.if-row-event.false c.later.process (omega arith) c.later.invariant
