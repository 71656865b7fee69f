use Rattle.std.proofs.Common.{rules, ◌≡◌, ◌∙◌, ◌+ℤ◌, arith}
use Rattle.std.specs.Int.{w64, w128}
use Rattle.std.specs.Prelude.{FitsSigned}
use Rattle.std.proofs.lemmas.Int.{ints, to_z-of_z}
use Rattle.counter_preds.specs.Counters.{value_at, first_reaching}
use Rattle.counter_preds.proofs.Reaching.{placed_more, placed_all}
use Rattle.counter_preds.proofs.positions.first_positions.Goals as goal

pub first_from-place-requires-clause-none : goal.first_from-place-requires-clause-none
first_from-place-requires-clause-none c = λ y lt.
    let item : FitsSigned w64 (value_at c.args.leads.now c.loop-lead.lead-index) = search rules in
    omega (arith, ints, c.ranges.more, c.ranges.extra, c.requires.low_more, c.requires.high_more, item, c.loop-lead.invariant.none c.loop-lead.lead-index y (omega arith) (omega arith) lt)

pub loop-lead-preserved : goal.loop-lead-preserved
loop-lead-preserved c =
    let item : FitsSigned w64 (value_at c.args.leads.now c.loop-lead.lead-index) = search rules in
    let next : c.first_from-place.result ≡ first_reaching c.args.follows.now c.args.extra (value_at c.args.leads.now c.loop-lead.lead-index +ℤ c.args.more) = grind (arith, ints, to_z-of_z, c.ranges.more, c.ranges.extra, item, c.requires.low_more, c.requires.high_more, c.first_from-place.ensures.first) in
    rw (to_z-of_z w128 c.args.more c.ranges.more) (rw (to_z-of_z w128 c.args.extra c.ranges.extra) (rw c.in_ok-push.ensures.items
    (placed_more c.args.leads.now c.args.more c.args.follows.now c.args.extra c.loop-lead.lead-index c.loop-lead.place _ c.requires.leads (omega arith)
    (rw (to_z-of_z w128 c.args.more c.ranges.more) at rw (to_z-of_z w128 c.args.extra c.ranges.extra) at c.loop-lead.invariant) _ next)))

pub returns : goal.returns
returns c =
    c.from_vec.ensures ∙ c.in_ok-push-2.ensures.items
    ∙ placed_all c.args.leads.now c.args.more c.args.follows.now c.args.extra c.loop-lead.lead-index c.loop-lead.place _ c.requires.leads (omega arith)
    (rw (to_z-of_z w128 c.args.more c.ranges.more) at rw (to_z-of_z w128 c.args.extra c.ranges.extra) at c.loop-lead.invariant)
