use Rattle.std.specs.String.{string_bytes}
use Rattle.over_answers.proofs.Tallying.{as_many, named_at, one_more, stopped}
use Rattle.over_answers.proofs.answering.answer_overs.Goals as goal

pub bounds-overs-i : goal.bounds-overs-i
bounds-overs-i g c = as_many string_bytes c.args.texts.now c.args.overs.now c.loop-i.i c.requires.named c.loop-i-test.true

pub answer_one-requires-clause-named : goal.answer_one-requires-clause-named
answer_one-requires-clause-named g c κs within =
    named_at string_bytes c.args.texts.now c.args.overs.now c.loop-i.i c.index-texts-i.result c.as_bytes-text.result.now c.requires.named c.loop-i-test.true c.index-texts-i.is
    c.as_bytes-text.ensures.value

pub returns-in-Err-clause-fault : goal.returns-in-Err-clause-fault
returns-in-Err-clause-fault g c =
    stopped string_bytes c.args.texts.now c.loop-i.i c.args.seen.now c.loop-i.tallies c.loop-i.invariant.tallied c.index-texts-i.result c.as_bytes-text.result.now c.loop-i-test.true c.index-texts-i.is
    c.as_bytes-text.ensures.value c.in-Err.stop c.numbered.result c.numbered.ensures c.in-Err.ensures.fault

pub loop-i-preserved : goal.loop-i-preserved
loop-i-preserved g c = record {
  tallied =
      one_more string_bytes c.args.texts.now c.loop-i.i c.args.seen.now c.loop-i.tallies c.loop-i.invariant.tallied c.index-texts-i.result c.as_bytes-text.result.now c.loop-i-test.true c.index-texts-i.is
      c.as_bytes-text.ensures.value c.in-Ok.tallied c.push.new.self c.in-Ok.ensures.tallied c.in_ok-push-in-Ok.ensures.ok;
  system = c.in-Ok.ensures.system;
}
