use Rattle.std.proofs.Common.{refl, length, arith, ap, ◌∙◌, ◌≡◌}
use Rattle.std.proofs.lemmas.List.{length-map}
use Rattle.event_log.proofs.Histories.{opening_values}
use Rattle.event_log.proofs.history.History.new.Goals as goal

pub invariant_of-result : goal.invariant_of-result
invariant_of-result c =
    let all = opening_values _ _ _ c.loop-variable.invariant c.loop-variable-test.false in
    let len : length c.loop-variable.values.items ≡ length c.args.variables.now = ap length all ∙ length-map c.args.variables.now _ in
    rw c.new.ensures.items (omega (arith, len))

pub returns : goal.returns
returns c =
    let all = opening_values _ _ _ c.loop-variable.invariant c.loop-variable-test.false in
    rw (c.new.ensures.items, all) refl
