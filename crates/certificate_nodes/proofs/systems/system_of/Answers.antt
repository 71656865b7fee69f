use Rattle.std.proofs.Common.{◌≡◌, ◌++◌, ℕ, List, length, flat_map, take, All, sym, ap, ◌∙◌, subst, arith}
use Rattle.std.proofs.lemmas.List.{take_all}
use Rattle.pull_system.specs.declared.pull.Pull.{Pull}
use Rattle.pull_fans.specs.Fans.{pulls_of_fans}
use Rattle.pull_system.specs.System.{IsPull}
use Rattle.slice_graph.specs.PullLists.{pulls_of_order}
use Rattle.certificate_nodes.specs.declared.plan.Asked.{Asked}
use Rattle.certificate_nodes.specs.Plans.{pulls_asked, system_of}
use Rattle.certificate_nodes.proofs.Fitting.{system_is}
use Rattle.certificate_nodes.proofs.systems.system_of.Goals as goal

pub of_fans-requires-clause-pulls : goal.of_fans-requires-clause-pulls
of_fans-requires-clause-pulls c =
    let o = c.args.order.now in
    let plan = c.args.plan.now in
    let slices = c.args.slices.now in
    let parts = c.args.parts.now in
    let end : take c.loop-part.part-index parts ≡ parts = take_all c.loop-part.part-index parts (omega (arith, c.loop-part-test.false, ap (λ (ps : List Asked). length ps) c.as_slice-part-items.ensures)) in
    let whole : pulls_of_fans c.loop-part.fans ≡ (system_of o plan slices parts).pulls = c.loop-part.invariant ∙ ap (λ (ps : List Asked). pulls_of_order o ++ flat_map (pulls_asked plan slices) ps) end in
    let is = system_is o c.shape.ensures.order c.shape.ensures.shape plan slices c.requires.given parts c.requires.parts in
    subst (λ (lens : List ℕ). All (IsPull lens) (pulls_of_fans c.loop-part.fans)) (sym c.shape.ensures.lens) (subst (λ (pulls : List Pull). All (IsPull (system_of o plan slices parts).lens) pulls) (sym whole) is.pulls)

pub of_fans-requires-clause-count : goal.of_fans-requires-clause-count
of_fans-requires-clause-count c =
    let o = c.args.order.now in
    let plan = c.args.plan.now in
    let slices = c.args.slices.now in
    let parts = c.args.parts.now in
    let end : take c.loop-part.part-index parts ≡ parts = take_all c.loop-part.part-index parts (omega (arith, c.loop-part-test.false, ap (λ (ps : List Asked). length ps) c.as_slice-part-items.ensures)) in
    let whole : pulls_of_fans c.loop-part.fans ≡ (system_of o plan slices parts).pulls = c.loop-part.invariant ∙ ap (λ (ps : List Asked). pulls_of_order o ++ flat_map (pulls_asked plan slices) ps) end in
    let is = system_is o c.shape.ensures.order c.shape.ensures.shape plan slices c.requires.given parts c.requires.parts in
    omega (arith, is.count, ap (λ (pulls : List Pull). length pulls) whole)
