use Rattle.std.proofs.Common.{length, map, [], ap, ◌∙◌}
use Rattle.std.specs.Prelude.{List}
use Rattle.event_log.specs.declared.log.Binding.{Binding}
use Rattle.event_log.specs.inside.Places.{PlacedHistory}
use Rattle.event_log.proofs.Placing.{fresh_placed_more, fresh_are_placed, fresh_view, fresh_all}
use Rattle.event_log.proofs.all_histories.Histories.new.Goals as goal

pub loop-variables-preserved : goal.loop-variables-preserved
loop-variables-preserved c =
    fresh_placed_more c.args.vars.now c.loop-variables.variables-index c.loop-variables.each.items c.push.new.self.items c.in_ok-new.field-0 c.variables-item.result
    c.loop-variables.invariant c.loop-variables-test.true c.variables-item.is
    (c.in_ok-new.ensures ∙ ap (λ (v : List Binding). let h : PlacedHistory = record { width = length v; places = []; values = map (λ (b : Binding). b.value) v } in h) c.as_slice.ensures)
    c.in_ok-push.ensures.items

pub invariant_of-result : goal.invariant_of-result
invariant_of-result c = rw (c.new-2.ensures.items, fresh_all c.args.vars.now _ _ c.loop-variables.invariant c.loop-variables-test.false) (fresh_are_placed c.args.vars.now)

pub returns : goal.returns
returns c = rw (c.new-2.ensures.items, fresh_all c.args.vars.now _ _ c.loop-variables.invariant c.loop-variables-test.false) (fresh_view c.args.vars.now)
