use Rattle.std.proofs.Common.{arith}
use Rattle.watch_feeding.specs.Fed.{states_at}
use Rattle.watch_feeding.proofs.Longer.{len_is}
use Rattle.watch_feeding.proofs.Turns.{length-states_at, fed_none, fed_more, fed_all}
use Rattle.watch_feeding.proofs.feeding.feed_states.Goals as goal

pub loop-position-init : goal.loop-position-init
loop-position-init g c =
    let size = length-states_at c.args.states.now c.args.process c.requires.whole c.requires.process in
    fed_none _ _ _ _ (omega (arith, size, c.requires.within, c.requires.full))

pub loop-position-preserved : goal.loop-position-preserved
loop-position-preserved g c =
    let size = length-states_at c.args.states.now c.args.process c.requires.whole c.requires.process in
    let len = len_is c.args.states.now c.args.process c.len_of-len.result c.shape.result.now c.shape.ensures c.len_of-len.ensures.len in
    fed_more (states_at c.args.states.now c.args.process) c.args.from c.loop-position.position c.args.row.now _ c.loop-position.row _ c.state.result.now c.feed_one-answer.result
    c.replace-before.new.self _ c.loop-position.invariant
    (omega (arith, size, len, c.loop-position-test.true))
    (omega (arith, size, len, c.loop-position-test.true, c.loop-position.invariant.len, c.requires.full))
    c.state.ensures.state c.replace-before.ensures.list c.feed_one-answer.ensures

pub returns-clause-fed : goal.returns-clause-fed
returns-clause-fed g c =
    let size = length-states_at c.args.states.now c.args.process c.requires.whole c.requires.process in
    let len = len_is c.args.states.now c.args.process c.len_of-len.result c.shape.result.now c.shape.ensures c.len_of-len.ensures.len in
    let until = c.loop-position.invariant.until in
    fed_all _ _ _ _ _ _ _ c.loop-position.invariant (omega (arith, size, len, until, c.loop-position-test.false)) (omega (arith, size, c.requires.full))
