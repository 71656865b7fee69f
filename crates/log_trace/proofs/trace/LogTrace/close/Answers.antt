use Rattle.std.proofs.Common.{◌≡◌, ◌∙◌, subst, refl}
use Rattle.std.specs.Prelude.{Err}
use Rattle.pota_base.specs.declared.fault.Refused.{Refused}
use Rattle.pota_base.specs.declared.fault.Refused.TheVariants as refused
use Rattle.event_log.specs.declared.item.LogFault.{LogFault}
use Rattle.vector_clock.specs.Admitted.{IfFault}
use Rattle.log_trace.proofs.Steps.{batch_fits, closes, close_refuses}
use Rattle.log_trace.proofs.trace.LogTrace.close.Goals as goal

-- what is told of a fault
of_fault : (P : LogFault → Type 0) (r : Refused LogFault) (f : LogFault) → r ≡ refused.Fault f → IfFault {T = Unit {0}} (Err r) P → P f
of_fault P r f same told = subst (λ (x : Refused LogFault). IfFault {T = Unit {0}} (Err x) P) same told

pub extend-requires : goal.extend-requires
extend-requires c unspent =
    batch_fits c.requires.0 c.args.last c.args.self.now c.in-Some.trace c.replace-batch.result c.requires.1 c.requires.2 c.if-self.false c.in-Some.is c.replace-batch.ensures.value

pub returns-clause-ok : goal.returns-clause-ok
returns-clause-ok c j is fit =
    closes j c.args.last c.args.self.now c.in-Some.trace c.replace-batch.result is fit c.if-self.false c.in-Some.is c.replace-batch.ensures.value _ c.extend.new.self
    c.in-Ok.ensures.ok.1 c.in-Ok.ensures.ok.2 refl (c.replace-batch.ensures.after ∙ c.new.ensures) refl

pub returns-in-Err-Fault-clause-fault : goal.returns-in-Err-Fault-clause-fault
returns-in-Err-Fault-clause-fault c j is fit =
    let told = of_fault _ c.in-Err-Fault.field-0 c.in-Err-Fault.fault c.in-Err-Fault.field-0-is c.in-Err-Fault.ensures.fault in
    close_refuses j c.args.last c.args.self.now c.in-Some.trace c.replace-batch.result is fit c.if-self.false c.in-Some.is c.replace-batch.ensures.value c.in-Err-Fault.fault told.1
