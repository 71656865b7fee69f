use Rattle.std.proofs.Common.{◌+◌, ◌++◌, Bool, All, List, length, arith, sym, subst, length-append}
use Rattle.std.proofs.lemmas.List.{get_or-append-add}
use Rattle.run_model.specs.Cut.{lengths}
use Rattle.pull_system.specs.declared.pull.Pull.{Pull}
use Rattle.pull_system.specs.System.{SystemView, IsPull}
use Rattle.pull_fans.specs.Fans.{pulls_of_fans}
use Rattle.slice_graph.specs.PullLists.{pulls_of_order}
use Rattle.conjunctions.specs.inside.Gathering.{first_pulls}
use Rattle.conjunctions.proofs.systems.system_of_asked.Goals as goal

-- what holds of all holds of the others
of_others : (P : Pull → Type 0) (first others : List Pull) → All P (first ++ others) → All P others
of_others P first others all = λ k d there.
    subst P (get_or-append-add first others k d) (all (length first + k) d (omega (arith, there, length-append first others)))

pub with_fans-requires-clause-pulls : goal.with_fans-requires-clause-pulls
with_fans-requires-clause-pulls c =
    let o = c.args.order.now in
    let own = pulls_of_fans c.args.asked.fans in
    let all = subst (λ (b : Bool). All (IsPull (lengths o)) (first_pulls o b ++ own)) c.if-has_order.false c.requires.pulls in
    subst (λ (s : SystemView). All (IsPull s.lens) own) (sym c.in_ok-order_system.ensures.system) (of_others (IsPull (lengths o)) (pulls_of_order o) own all)
