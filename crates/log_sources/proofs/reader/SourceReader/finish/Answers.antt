use Rattle.std.proofs.Common.{◌≡◌, Some, None, sym, ◌∙◌, ap}
use Rattle.event_log.proofs.ReadLaws.{some_value}
use Rattle.event_log.proofs.FeedSteps.{none_value}
use Rattle.fault_kinds.specs.declared.merge.MergeFault.{MergeFault}
use Rattle.log_sources.proofs.ReadingOn.{last_is_fault, last_is_whole, last_is_open}
use Rattle.log_sources.proofs.reader.SourceReader.finish.Goals as goal

pub returns-then-is_some-clause-fault : goal.returns-then-is_some-clause-fault
returns-then-is_some-clause-fault c =
    let x = some_value c.args.self.now.fault (sym c.is_some.ensures ∙ c.if-is_some.true) in
    last_is_fault c.args.self.now x.0 x.1

pub returns-then-self-clause-fault : goal.returns-then-self-clause-fault
returns-then-self-clause-fault c = last_is_whole c.args.self.now (none_value c.args.self.now.fault (sym c.is_some.ensures ∙ c.if-is_some.false)) c.if-self.true

pub returns-in_err-fault-clause-fault : goal.returns-in_err-fault-clause-fault
returns-in_err-fault-clause-fault c = λ s has.
    let none : c.from_residual.result ≡ None = cc in
    none ∙ last_is_open c.args.self.now None (none_value c.args.self.now.fault (sym c.is_some.ensures ∙ c.if-is_some.false)) c.if-self.false c.in_err-fault.ensures.fault s has

pub returns-clause-fault : goal.returns-clause-fault
returns-clause-fault c = λ s has.
    ap (λ (x : MergeFault). Some x) c.fault_at.ensures ∙ last_is_open c.args.self.now (Some c.in_ok-fault.fault) (none_value c.args.self.now.fault (sym c.is_some.ensures ∙ c.if-is_some.false)) c.if-self.false c.in_ok-fault.ensures.fault s has
