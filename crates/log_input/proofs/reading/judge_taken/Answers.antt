use Rattle.log_input.proofs.Texts.{not_failed, has_failed}
use Rattle.log_input.proofs.reading.judge_taken.Goals as goal

pub returns-in-Ended : goal.returns-in-Ended
returns-in-Ended c text h =
    let is = c.in-Ended.is in not_failed c.args.reader.now c.args.filled text h c.args.end (λ e. cc) c.finish.result (c.finish.ensures text h)

pub returns-in-Done : goal.returns-in-Done
returns-in-Done c text h =
    let is = c.in-Done.is in not_failed c.args.reader.now c.args.filled text h c.args.end (λ e. cc) c.finish-in-Done.result (c.finish-in-Done.ensures text h)

pub returns-in-Failed : goal.returns-in-Failed
returns-in-Failed c text h = has_failed c.args.reader.now c.args.filled text h c.args.end c.in-Failed.is
