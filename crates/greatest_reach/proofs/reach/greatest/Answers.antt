use Rattle.std.proofs.Common.{◌<◌, length, ap, sym, subst, arith, rules}
use Rattle.std.proofs.lemmas.List.Sorted.{All-permutation, IsNonDecreasingBy-from_sort_by_key}
use Rattle.std.specs.List.Sorted.{IsPermutation, IsNonDecreasingBy}
use Rattle.greatest_reach.specs.declared.reach.Start.{Start}
use Rattle.greatest_reach.specs.Graph.{StartsIn, AreGreatest}
use Rattle.greatest_reach.proofs.Flows.{any_order, whole}
use Rattle.greatest_reach.proofs.reach.greatest.Goals as goal

pub flow-requires-clause-there : goal.flow-requires-clause-there
flow-requires-clause-there c =
    subst (StartsIn (length c.args.readers.now)) (sym c.deref.ensures.value)
    (All-permutation (λ (s : Start). s.node < length c.args.readers.now) _ _ c.in_ok-sort_by_key.ensures.permutation c.requires.there)

pub flow-requires-clause-rising : goal.flow-requires-clause-rising
flow-requires-clause-rising c =
    subst (IsNonDecreasingBy (λ (s : Start). s.value)) (sym c.deref.ensures.value)
    (IsNonDecreasingBy-from_sort_by_key (λ (s : Start). s.value) _ c.in_ok-sort_by_key.ensures.sorted (search rules))

pub returns : goal.returns
returns c =
    let are = any_order c.args.readers.now c.args.starts.items c.deref.result.now c.flow.new.values
    (subst (IsPermutation c.args.starts.items) (sym c.deref.ensures.value) c.in_ok-sort_by_key.ensures.permutation) c.in_ok-flow.ensures in
    subst (AreGreatest c.args.readers.now c.args.starts.items) (sym (whole c.in_ok-values.values.len c.flow.new.values c.in_ok-values.values.items
    (omega (arith, c.flow.auto.values, c.deref_mut.ensures.len, ap length c.deref_mut.ensures.value)) (omega (arith, c.deref_mut.ensures.len, ap length c.deref_mut.ensures.value)))) are
