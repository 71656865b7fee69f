use Rattle.std.proofs.Common.{sym, ap, subst, length}
use Rattle.event_log.specs.declared.log.Log.{Log}
use Rattle.event_log.specs.FittingItems.{FitFirst}
use Rattle.event_log.specs.LogText.{log_items}
use Rattle.log_input.specs.declared.form.Form.TheVariants as form
use Rattle.log_input.specs.declared.places.Places.TheVariants.{Lines}
use Rattle.log_input.specs.declared.judged.Judged.TheVariants.{Faulty}
use Rattle.fault_kinds.specs.declared.import.ImportFault.{ImportFault}
use Rattle.fault_kinds.specs.declared.refusal.Refusal.TheVariants as refusal
use Rattle.log_input.specs.inside.Judging.{IsJudged, StandsAt}
use Rattle.log_input.proofs.Stands.{ok_so, no_refusal, import_fits, import_stands, import_refused}
use Rattle.log_input.proofs.reading.import_all.Goals as goal

pub fill-requires-clause-batch : goal.fill-requires-clause-batch
fill-requires-clause-batch c = ap (λ (l : Log). length l.batches) c.in-Ok.ensures.ok

pub fill-requires-clause-fit : goal.fill-requires-clause-fit
fill-requires-clause-fit c =
    subst (λ (l : Log). FitFirst (log_items l)) (sym c.in-Ok.ensures.ok) (import_fits c.args.text.now (no_refusal c.args.text.now c.in-Ok.ensures.faultless))

pub returns-in-Ok : goal.returns-in-Ok
returns-in-Ok c =
    ok_so c.fill.result (IsJudged c.in-Ok.log Lines) (StandsAt form.Clocks c.args.text.now)
    (λ i j. import_stands c.args.text.now (no_refusal c.args.text.now c.in-Ok.ensures.faultless) i (subst (λ (l : Log). IsJudged l Lines i) c.in-Ok.ensures.ok j)) c.fill.ensures

pub returns-in-Err-Fault : goal.returns-in-Err-Fault
returns-in-Err-Fault c =
    subst (λ (f : ImportFault). StandsAt form.Clocks c.args.text.now (Faulty (refusal.Import f))) (sym c.in-Err-Fault.fault-is)
    (import_refused c.args.text.now c.in-Err-Fault.fault (rw c.in-Err-Fault.field-0-is at c.in-Err-Fault.ensures.fault))
