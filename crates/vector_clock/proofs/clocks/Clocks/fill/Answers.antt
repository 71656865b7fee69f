use Rattle.std.proofs.Common.{◌≡◌, ◌∙◌, ℕ, ap, sym, subst, length, arith}
use Rattle.std.specs.Prelude.{List}
use Rattle.std.specs.List.{AllByRecursion}
use Rattle.std.proofs.lemmas.Result.{IfOk-weaker}
use Rattle.run_model.specs.Cut.{Cut, lengths}
use Rattle.causal_order.proofs.Growing.{length-lengths}
use Rattle.vector_clock.specs.declared.nodes.Node.{Node}
use Rattle.vector_clock.specs.Events.{EventStands}
use Rattle.vector_clock.specs.inside.Nodes.{HaveTargets, AreReaders, HaveCounts, AreFilled}
use Rattle.vector_clock.proofs.Growth.{lengths_of, length-clocks_of}
use Rattle.vector_clock.proofs.FillLaws.{batch_is_filled}
use Rattle.vector_clock.proofs.clocks.Clocks.fill.Goals as goal

pub nodes_in-requires-clause-each : goal.nodes_in-requires-clause-each
nodes_in-requires-clause-each c =
    subst (λ (n : ℕ). AllByRecursion (EventStands n) c.args.batch.now) (sym (ap length (c.lens-lens.ensures.lens ∙ c.shape.ensures.lens) ∙ length-lengths c.args.self.now.order)) c.requires.each

pub returns : goal.returns
returns c = IfOk-weaker c.copy_filled.result _ _ (λ filled are events has.
    let o = c.args.self.now.order in
    let batch = c.args.batch.now in
    let nodes = c.in_ok-nodes.nodes.items in
    let readers = c.in_ok-readers.readers.items in
    let size : length o ≡ length events = ap length has.order ∙ length-clocks_of events in
    let lens : c.lens-lens.result.now ≡ lengths o = c.lens-lens.ensures.lens ∙ c.shape.ensures.lens in
    let counts = subst (λ (rs : List (List ℕ)). HaveCounts o batch nodes rs (length o) c.in_ok-clocks.clocks.items) c.deref-3.ensures.value
    (subst (λ (ns : List Node). HaveCounts o batch ns c.deref-3.result.now (length o) c.in_ok-clocks.clocks.items) c.deref-2.ensures.value c.in_ok-clocks.ensures) in
    batch_is_filled o events batch nodes readers c.in_ok-clocks.clocks.items filled (record {
      clocks = has.order;
      order = c.shape.ensures.order;
      some = omega (arith, c.shape.ensures.shape.some, length-lengths o, size);
      stands = subst (λ (n : ℕ). AllByRecursion (EventStands n) batch) size c.requires.each;
      nodes_are = c.in_ok-nodes.ensures.nodes events (lens ∙ ap lengths has.order ∙ lengths_of events) has.messages;
      targets = subst (λ (ls : List ℕ). HaveTargets ls (length batch) nodes) lens c.in_ok-nodes.ensures.targets;
      readers_are = subst (λ (ns : List Node). AreReaders batch ns (length batch) readers) c.deref.ensures.value c.in_ok-readers.ensures.readers;
    }) counts (subst (λ (cs : List Cut). AreFilled batch cs filled) c.deref-4.ensures.value are)) c.copy_filled.ensures
