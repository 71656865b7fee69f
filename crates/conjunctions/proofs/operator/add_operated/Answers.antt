use Rattle.std.proofs.Common.{◌∙◌}
use Rattle.run_model.specs.Cut.{initial}
use Rattle.run_model.proofs.Orders.{initial_consistent}
use Rattle.conjunctions.proofs.Asking.{operated_adds}
use Rattle.conjunctions.proofs.Beginning.{kept_fits}
use Rattle.conjunctions.proofs.operator.add_operated.Goals as goal

pub returns-clause-pulls : goal.returns-clause-pulls
returns-clause-pulls c =
    let o = c.args.order.now in
    let slice = c.in_ok-slice.ensures in
    let told = c.in_ok-add_slice.ensures in
    operated_adds o c.args.operator c.args.operand.now c.in_ok-slice.slice c.args.gathered.now.pulls c.keep.new.self.pulls slice.fits told.rows slice.cuts (c.keep.ensures.pulls ∙ told.pulls)

pub returns-clause-truth : goal.returns-clause-truth
returns-clause-truth c =
    let o = c.args.order.now in
    let same = c.in_ok-slice.ensures.cuts (initial o) (initial_consistent o) in
    let first = c.in_ok-truth.ensures o c.in_ok-slice.ensures.fits in
    (λ h. same.0 (first.0 h), λ h. first.1 (same.1 h))

pub returns-clause-floor : goal.returns-clause-floor
returns-clause-floor c =
    let o = c.args.order.now in
    let slice = c.in_ok-slice.ensures in
    let told = c.in_ok-add_slice.ensures in
    let kept = c.keep.ensures in
    kept_fits o c.add_slice.new.self c.keep.new.self c.in_ok-slice.slice slice.fits told.rows told.alone (told.floor o slice.fits c.requires.floor) kept.pulls kept.floor kept.same kept.alone kept.others
