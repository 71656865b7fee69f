use Rattle.std.proofs.Common.{◌≡◌, ◌+◌, ◌≤◌, ◌∙◌, ◌++◌, ℕ, ℤ, List, [], ◌∷◌, length, map, ap, sym, subst, arith}
use Rattle.std.specs.List.{range_with_len}
use Rattle.std.proofs.lemmas.Int.{to_z-of_z}
use Rattle.pota_base.specs.Limits.{most_events}
use Rattle.channel_preds.proofs.Counting.{length-events_at, few_events}
use Rattle.channel_preds.specs.Channels.{events_at}
use Rattle.counter_preds.specs.Counters.{value_in}
use Rattle.counter_preds.proofs.Along.{length-values_of, values_more}
use Rattle.counter_preds.proofs.values.values_along.Goals as goal

pub loop-position-preserved : goal.loop-position-preserved
loop-position-preserved c =
    let same : c.push.new.self.items ≡ c.loop-position.values.items ++ c.value.result ∷ [] = grind (arith, to_z-of_z) in
    values_more c.args.states.now c.args.variable c.loop-position.position c.loop-position.values.items c.push.new.self.items c.value.result c.loop-position.invariant same c.value.ensures

pub returns-clause-values : goal.returns-clause-values
returns-clause-values c =
    let size = length-events_at c.args.states.now _ c.args.variable.process _ c.requires.process c.shape.ensures c.len_of-len.ensures.len in
    let end : c.loop-position.position ≡ length (events_at c.args.states.now c.args.variable.process) + 1 = omega (arith, size, c.loop-position-test.false, c.loop-position.auto.position-end) in
    c.from_vec.ensures ∙ c.loop-position.invariant ∙ ap (λ (n : ℕ). map (value_in c.args.states.now c.args.variable) (range_with_len 0 n)) end

pub returns-clause-few : goal.returns-clause-few
returns-clause-few c =
    let few = few_events c.args.states.now _ c.args.variable.process c.requires.process c.shape.ensures c.len_of-len.ensures.shape in
    let P : List ℤ → Type 0 = λ values. length values ≤ most_events + 1 in
    subst P (sym (returns-clause-values c)) (omega (arith, few, length-values_of c.args.states.now c.args.variable))
