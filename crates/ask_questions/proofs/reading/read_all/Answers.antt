use Rattle.std.specs.String.{string_bytes}
use Rattle.ask_questions.proofs.Texts.{one_more, unreadable}
use Rattle.ask_questions.proofs.reading.read_all.Goals as goal

pub returns-in-Err-clause-fault : goal.returns-in-Err-clause-fault
returns-in-Err-clause-fault c =
    unreadable string_bytes c.args.texts.now c.loop-i.i c.loop-i.entries c.loop-i.invariant c.index-texts-i.result c.as_bytes.result.now c.loop-i-test.true c.index-texts-i.is c.as_bytes.ensures.value
    c.in-Err.stop c.refused.result c.refused.ensures c.in-Err.ensures.fault

pub loop-i-preserved : goal.loop-i-preserved
loop-i-preserved c =
    one_more string_bytes c.args.texts.now c.loop-i.i c.loop-i.entries c.loop-i.invariant c.index-texts-i.result c.as_bytes.result.now c.loop-i-test.true c.index-texts-i.is c.as_bytes.ensures.value
    c.in-Ok.entry c.push.new.self c.in-Ok.ensures.entry c.in_ok-push-in-Ok.ensures.ok
