use Rattle.std.proofs.Common.{ap, arith}
use Rattle.rctl_class.specs.NamedParts.{parts_count, pieces_of}
use Rattle.asked_list.proofs.Counts.{next_disjunct}
use Rattle.asked_list.proofs.count.asked_count.Goals as goal

pub disjuncts-preserved : goal.disjuncts-preserved
disjuncts-preserved c =
    let next = next_disjunct c.args.form c.args.disjuncts.now c.disjuncts.disjunct-index c.disjunct-item.result c.disjuncts-test.true c.disjunct-item.is in
    omega (
      arith,
      next,
      c.disjuncts.invariant,
      (c.parts_added-added).ensures,
      ap (λ ps. parts_count (pieces_of ps)) c.as_slice.ensures,
      c.parts_count.ensures,
      (c.saturating_add-parts).ensures,
      (c.saturating_add-count).ensures,
    )
