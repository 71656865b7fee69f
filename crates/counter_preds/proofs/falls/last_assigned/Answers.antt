use Rattle.std.proofs.Common.{ℤ, List, ap, ◌∙◌, of_z, to_z, rules}
use Rattle.std.specs.Int.{w64}
use Rattle.std.specs.Prelude.{FitsSigned}
use Rattle.std.proofs.lemmas.Int.{to_z-of_z}
use Rattle.std.proofs.lemmas.List.{take_all}
use Rattle.event_log.specs.declared.log.Assign.{Assign}
use Rattle.counter_preds.specs.inside.Falls.{assigned_value}
use Rattle.counter_preds.proofs.Lowering.{assigned_more}
use Rattle.counter_preds.proofs.falls.last_assigned.Goals as goal

pub loop-assign-preserved : goal.loop-assign-preserved
loop-assign-preserved c =
    let fits : FitsSigned w64 c.assigned-value.result = search rules in
    to_z-of_z w64 c.assigned-value.result fits
    ∙ assigned_more c.args.number (to_z w64 (of_z w64 c.args.before)) c.args.assigns.now c.loop-assign.assign-index _ c.loop-assign-test.true (to_z w64 c.loop-assign.value-bits) c.assigned-value.result
    c.loop-assign.invariant c.assigned-value.ensures

pub returns : goal.returns
returns c =
    c.loop-assign.invariant
    ∙ ap (λ (xs : List Assign). assigned_value c.args.number (to_z w64 (of_z w64 c.args.before)) xs) (take_all c.loop-assign.assign-index c.args.assigns.now c.loop-assign-test.false)
    ∙ ap (λ (z : ℤ). assigned_value c.args.number z c.args.assigns.now) (to_z-of_z w64 c.args.before c.ranges.before)
