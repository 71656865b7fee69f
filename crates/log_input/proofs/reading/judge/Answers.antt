use Rattle.std.proofs.Common.{sym, subst}
use Rattle.event_log.specs.declared.item.LogFault.{LogFault}
use Rattle.fault_kinds.specs.declared.refusal.Refusal.TheVariants as refusal
use Rattle.log_input.specs.declared.judged.Judged.TheVariants.{Faulty}
use Rattle.log_input.specs.inside.Judging.{IsTextJudged}
use Rattle.log_input.proofs.Texts.{text_stops}
use Rattle.log_input.proofs.reading.judge.Goals as goal

pub judge_taken-requires : goal.judge_taken-requires
judge_taken-requires c = (c.args.text.now, c.in-Ok.ensures.ok)

pub returns-in-Ok : goal.returns-in-Ok
returns-in-Ok c = c.judge_taken.ensures c.args.text.now c.in-Ok.ensures.ok

pub returns-in-Err-Fault : goal.returns-in-Err-Fault
returns-in-Err-Fault c =
    subst (λ (f : LogFault). IsTextJudged c.args.text.now c.args.end (Faulty (refusal.Log f))) (sym c.in-Err-Fault.fault-is)
    (text_stops c.args.text.now c.args.end c.in-Err-Fault.fault (rw c.in-Err-Fault.field-0-is at c.in-Err-Fault.ensures.fault))
