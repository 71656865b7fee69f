use Rattle.std.proofs.Common.{◌+◌, sym, ◌∙◌, arith, ap, List, drop}
use Rattle.std.proofs.lemmas.Result.{err_from_is_err_and}
use Rattle.log_lines.specs.Drafts.{values_of}
use Rattle.event_log.specs.declared.log.Assign.{Assign}
use Rattle.event_log.specs.Numbers.{binding_names, assigns_in}
use Rattle.event_log.proofs.NumberSteps.{assigns-next, assigns-bad, assigns-done, agrees_err}
use Rattle.event_log.proofs.numbers.assigns_in.Goals as goal

pub returns-in_err-assign : goal.returns-in_err-assign
returns-in_err-assign c =
    let p = err_from_is_err_and c.from_residual-in_err-assign.result c.from_residual-in_err-assign.ensures.1 in
    rw (p.1, p.2) (agrees_err c.in_err-assign.field-0.0 _ _ c.in_err-assign.ensures (λ fault h. c.loop-setting.invariant ∙ assigns-bad (binding_names c.args.variables.now) c.loop-setting.assigns c.args.settings.now c.loop-setting.setting-index _ c.loop-setting-test.true fault h))

pub loop-setting-preserved : goal.loop-setting-preserved
loop-setting-preserved c =
    c.loop-setting.invariant ∙ assigns-next (binding_names c.args.variables.now) c.loop-setting.assigns c.args.settings.now c.loop-setting.setting-index _ c.loop-setting-test.true c.in_ok-assign.assign c.in_ok-assign.ensures
    ∙ ap (λ (front : List Assign). assigns_in (binding_names c.args.variables.now) front (values_of (drop (c.loop-setting.setting-index + 1) c.args.settings.now))) (sym c.in_ok-push.ensures.ok)

pub returns : goal.returns
returns c = c.loop-setting.invariant ∙ assigns-done (binding_names c.args.variables.now) c.loop-setting.assigns c.args.settings.now c.loop-setting.setting-index (omega arith)
