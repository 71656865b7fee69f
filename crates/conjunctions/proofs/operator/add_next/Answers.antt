use Rattle.std.proofs.Common.{◌≡◌, true, false, length, sym, ◌∙◌, ap, arith}
use Rattle.std.proofs.lemmas.Result.{IfOk-weaker}
use Rattle.run_model.proofs.Counts.{length-lengths}
use Rattle.slice_graph.specs.Views.{slice_of}
use Rattle.pull_fans.specs.Fans.{pulls_of_fans}
use Rattle.conjunctions.proofs.Beginning.{gathered_more}
use Rattle.part_pulls.proofs.Firsts.{first_next}
use Rattle.conjunctions.proofs.Asking.{next_adds}
use Rattle.conjunctions.proofs.operator.add_next.Goals as goal

pub ex_fans-requires-clause-process : goal.ex_fans-requires-clause-process
ex_fans-requires-clause-process c = omega (arith, c.requires.process, ap length c.requires.fits.shape, length-lengths c.args.order.now)

pub has_first-requires : goal.has_first-requires
has_first-requires c = omega (arith, c.requires.process, ap length c.requires.fits.shape, length-lengths c.args.order.now)

pub returns-clause-pulls : goal.returns-clause-pulls
returns-clause-pulls c =
    let o = c.args.order.now in
    let told = c.in_ok-ex_fans.ensures in
    IfOk-weaker c.has_first.result _ _
    (λ truth first.
    next_adds o c.args.process c.args.operand.now c.args.gathered.now.pulls c.add_fans.new.self.pulls (pulls_of_fans c.in_ok-ex_fans.field-0) c.requires.fits c.in_ok-add_fans.ensures.pulls told.pulls told.count told.closed)
    (c.has_first.ensures o c.requires.fits)

pub returns-clause-floor : goal.returns-clause-floor
returns-clause-floor c =
    let o = c.args.order.now in
    let told = c.in_ok-add_fans.ensures in
    IfOk-weaker c.has_first.result _ _
    (λ truth first.
    gathered_more o c.args.gathered.now c.add_fans.new.self (pulls_of_fans c.in_ok-ex_fans.field-0) told.pulls told.floor (λ is. let e : false ≡ true = sym told.alone ∙ is in absurd (cc)) told.slice c.requires.floor)
    (c.has_first.ensures o c.requires.fits)

pub returns-clause-truth : goal.returns-clause-truth
returns-clause-truth c =
    let o = c.args.order.now in
    let next = first_next o (slice_of c.args.operand.now) c.args.process in
    IfOk-weaker c.has_first.result _ _ (λ truth first. (λ h. next.0 (first.0 h), λ h. first.1 (next.1 h))) (c.has_first.ensures o c.requires.fits)
