use Rattle.std.proofs.Common.{◌≡◌, ◌∙◌, ◌<◌, ◌+◌, ℕ, ap, sym, subst, length, take, arith, length-append}
use Rattle.std.specs.Prelude.{List, None}
use Rattle.std.proofs.lemmas.List.{length-set, length-map, get_or_default}
use Rattle.event_log.specs.declared.log.Event.{Event}
use Rattle.vector_clock.specs.declared.nodes.Node.{Node}
use Rattle.vector_clock.specs.inside.Nodes.{IsNode, AreNodes, IsTarget, HaveTargets, no_node}
use Rattle.vector_clock.proofs.Below.{count_is}
use Rattle.vector_clock.proofs.Counting.{counts_next, few_taken, raised_none, length-raised}
use Rattle.vector_clock.proofs.Looks.{IsLast, one_stands, pushed_each, first_targets, admitted_last, last_next, lasts_there, more_target, targets_more, no_targets, next_node}
use Rattle.vector_clock.proofs.nodes.nodes_in.Goals as goal

pub loop-i-init : goal.loop-i-init
loop-i-init c = record {
  taken = c.in_ok-taken.ensures.items ∙ sym (raised_none c.args.lens.now c.args.batch.now);
  width = c.in_ok-lasts.ensures.0;
  lasts = λ events is p lt. subst (IsLast events c.args.batch.now 0 p) (sym (c.in_ok-lasts.ensures.1 p (omega (arith, lt, ap length is, length-map events (length {A = Event}))))) (admitted_last events c.args.batch.now c.args.lens.now p is);
  there = first_targets c.args.lens.now c.in_ok-lasts.lasts.items c.in_ok-lasts.ensures.0 c.in_ok-lasts.ensures.1;
  count = ap length c.in_ok-nodes.ensures.items;
  nodes = λ events is has k lt. absurd (omega (arith, lt));
  targets = subst (HaveTargets c.args.lens.now (length c.args.batch.now)) (sym c.in_ok-nodes.ensures.items) (no_targets c.args.lens.now (length c.args.batch.now));
}

pub overflow_add-position : goal.overflow_add-position
overflow_add-position c =
    let stands = one_stands _ c.args.batch.now c.loop-i.i c.index-batch-i.result c.requires.each c.loop-i-test.true c.index-batch-i.is in
    let there : c.index-batch-i.result.process < length c.loop-i.taken.items = omega (arith, stands.process, ap length c.loop-i.invariant.taken, length-raised c.args.lens.now (take c.loop-i.i c.args.batch.now)) in
    let few = few_taken c.args.lens.now c.loop-i.taken.items c.args.batch.now c.loop-i.i c.index-batch-i.result.process c.loop-i.invariant.taken c.requires.few in
    let read = count_is c.loop-i.taken.items c.index-batch-i.result.process c.index.result.now there c.index.ensures in
    grind (arith, few, read)

pub loop-i-preserved : goal.loop-i-preserved
loop-i-preserved c =
    let e = c.index-batch-i.result in
    let stands = one_stands _ c.args.batch.now c.loop-i.i e c.requires.each c.loop-i-test.true c.index-batch-i.is in
    let there : e.process < length c.loop-i.taken.items = omega (arith, stands.process, ap length c.loop-i.invariant.taken, length-raised c.args.lens.now (take c.loop-i.i c.args.batch.now)) in
    let wide : e.process < length c.loop-i.lasts.items = omega (arith, stands.process, c.loop-i.invariant.width) in
    let before = c.index-in-loop-i.result.now in
    let before_there = subst (IsTarget c.args.lens.now c.loop-i.i) (sym (c.index-in-loop-i.ensures ∙ get_or_default c.loop-i.lasts.items e.process before None wide)) (c.loop-i.invariant.there e.process) in
    record {
      taken = counts_next c.args.batch.now c.args.lens.now c.loop-i.taken.items c.loop-i.i e c.index.result.now c.loop-i-test.true c.index-batch-i.is there c.loop-i.invariant.taken c.index.ensures;
      width = length-set c.loop-i.lasts.items e.process _ ∙ c.loop-i.invariant.width;
      lasts = λ events is p lt.
          let size : length c.args.lens.now ≡ length events = ap length is ∙ length-map events (length {A = Event}) in
          last_next events c.args.batch.now c.loop-i.i e c.loop-i.lasts.items c.loop-i-test.true c.index-batch-i.is (omega (arith, stands.process, size)) (c.loop-i.invariant.width ∙ size) (c.loop-i.invariant.lasts events is) p lt;
      there = lasts_there c.args.lens.now c.loop-i.lasts.items c.loop-i.i e.process c.loop-i.invariant.there;
      count = ap length c.in_ok-push.ensures.items ∙ length-append c.loop-i.nodes.items _ ∙ ap (λ (n : ℕ). n + 1) c.loop-i.invariant.count;
      nodes = λ events is has.
          let size : length c.args.lens.now ≡ length events = ap length is ∙ length-map events (length {A = Event}) in
          let here : e.process < length events = omega (arith, stands.process, size) in
          let one = next_node events c.args.batch.now c.args.lens.now c.loop-i.taken.items c.loop-i.i e c.index.result.now before c.send_of.result c.loop-i.lasts.items c.loop-i-test.true c.index-batch-i.is there here wide c.loop-i.invariant.taken is c.index.ensures c.index-in-loop-i.ensures
          (c.loop-i.invariant.lasts events is e.process here) (c.send_of.ensures.send events c.args.batch.now has c.requires.sends) in
          subst (λ (ns : List Node). AreNodes events c.args.batch.now (c.loop-i.i + 1) ns) (sym c.in_ok-push.ensures.items)
          (pushed_each (IsNode events c.args.batch.now) no_node c.loop-i.nodes.items _ c.loop-i.i c.loop-i.invariant.count (c.loop-i.invariant.nodes events is has) one);
      targets = subst (HaveTargets c.args.lens.now (length c.args.batch.now)) (sym c.in_ok-push.ensures.items)
          (targets_more c.args.lens.now (length c.args.batch.now) c.loop-i.nodes.items _ c.loop-i.invariant.targets
          (more_target c.args.lens.now c.loop-i.i (length c.args.batch.now) (omega (arith, c.loop-i-test.true)) before before_there) (c.send_of.ensures.there c.args.batch.now c.requires.sends));
    }
