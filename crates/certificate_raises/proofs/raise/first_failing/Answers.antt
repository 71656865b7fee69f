use Rattle.std.proofs.Common.{◌≡◌, ◌<◌, Bool, List, true, false, get_or, set, length, sym, ap, ◌∙◌, subst, arith, rules}
use Rattle.pull_system.specs.Marks.{marked}
use Rattle.pull_system.specs.System.{HoldsPull}
use Rattle.certificate_table.specs.Begun.{BegunView, present_row}
use Rattle.certificate_raises.specs.Canonical.{AreDoubts}
use Rattle.certificate_raises.proofs.Doubting.{doubt_removed, held_more, marked_less}
use Rattle.certificate_raises.proofs.raise.first_failing.Goals as goal
use Rattle.certificate_raises.proofs.raise.first_failing.Goals.{then-has+else-not-holds, else-has}

pub loop-pull-preserved : goal.loop-pull-preserved
loop-pull-preserved g c =
    let v : BegunView = c.args.rows.now in
    let k = c.loop-pull.pull in
    let before = c.loop-pull.invariant in
    let there : k < length v.system.pulls = search rules in
    elim c.if-has.branch [
      | then-has+else-not-holds w ↦
          let holds : HoldsPull v.system (present_row v) k = search rules in
          let is : c.if-has.doubts ≡ set c.loop-pull.doubts k false = w.doubts-is ∙ w.remove.ensures in
          let on : get_or c.loop-pull.doubts k true ≡ true = sym c.has.ensures ∙ w.if-has.true in
          let same : marked c.if-has.doubts ≡ marked (set c.loop-pull.doubts k false) = ap (λ (ds : List Bool). marked ds) is in
          record {
            doubts = subst (λ (ds : List Bool). AreDoubts v ds) (sym is) (doubt_removed v c.loop-pull.doubts k before.doubts holds);
            held = held_more v k before.held holds;
            looks = omega (arith, w.steps-is, w.holds.ensures.look, same, marked_less c.loop-pull.doubts k (omega (arith, there, before.doubts.count)) on, before.looks);
          }
      | else-has w ↦
          let off : get_or c.loop-pull.doubts k true ≡ false = sym c.has.ensures ∙ w.if-has.false in
          let same : marked c.if-has.doubts ≡ marked c.loop-pull.doubts = ap (λ (ds : List Bool). marked ds) w.doubts-is in
          record {
            doubts = subst (λ (ds : List Bool). AreDoubts v ds) (sym w.doubts-is) before.doubts;
            held = held_more v k before.held (before.doubts.each k there off);
            looks = omega (arith, w.steps-is, same, before.looks);
          }
    ]
