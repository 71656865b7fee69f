use Rattle.std.proofs.Common.{true, [], sym}
use Rattle.event_log.specs.LogText.{onto}
use Rattle.view_top.specs.Viewing.{log_in}
use Rattle.view_top.proofs.Whole.{end_due, no_trace}
use Rattle.view_top.proofs.Outcomes.{failed, stopped, open_at, here_so, views, no_views}
use Rattle.view_top.proofs.viewing.view_in.Goals as goal

pub returns-in-Failed-clause-fault : goal.returns-in-Failed-clause-fault
returns-in-Failed-clause-fault c bytes come = failed c.args.end c.args.input.now bytes c.in-Failed.is come

pub returns-in-Done-clause-fault : goal.returns-in-Done-clause-fault
returns-in-Done-clause-fault c bytes come = stopped c.args.end c.args.input.now bytes c.stopped_by.result c.in-Done.is c.stopped_by.ensures come

pub returns-in-Some-clause-fault : goal.returns-in-Some-clause-fault
returns-in-Some-clause-fault c bytes come =
    let known = open_at c.args.end c.args.input.now bytes c.in-Ended.is come in (
      true,
      λ _. c.in-Ended.is,
      end_due c.args.input.now.reader c.args.input.now.log bytes c.args.input.now.behind known.log c.in-Some.fault
          (sym (c.in-Some.ensures.fault (onto (log_in bytes) []) known.log.read)),
    )

pub unreachable-requires : goal.unreachable-requires
unreachable-requires c =
    let known = open_at c.args.end c.args.input.now c.requires.0 c.in-Ended.is c.requires.1 in
    no_trace c.args.input.now.reader c.args.input.now.log c.requires.0 c.args.input.now.behind known.log
    (sym (c.in_default.ensures.fault (onto (log_in c.requires.0) []) known.log.read)) c.in_default-trace.is

pub view_behind-requires : goal.view_behind-requires
view_behind-requires c =
    here_so c.args.input.now c.args.end c.in-Ended.is c.in-Some-trace.trace c.in-Some-trace.is c.in_default.ensures.fault c.requires.0 c.requires.1

pub returns-clause-view : goal.returns-clause-view
returns-clause-view c =
    views c.args.input.now c.args.end c.in-Ended.is c.in-Some-trace.trace c.in-Some-trace.is c.in_default.ensures.fault c.args.asked c.as_slice.result.now c.as_slice.ensures c.view_behind.result c.view_behind.ensures

pub returns-clause-fault : goal.returns-clause-fault
returns-clause-fault c =
    no_views c.args.input.now c.args.end c.in-Ended.is c.in-Some-trace.trace c.in-Some-trace.is c.in_default.ensures.fault c.args.asked c.as_slice.result.now c.as_slice.ensures c.view_behind.result c.view_behind.ensures
