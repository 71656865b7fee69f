use Rattle.std.proofs.Common.{◌+◌, ◌≤◌, ◌++◌, List, length, take, sym, ◌∙◌, ap, subst, arith}
use Rattle.pota_base.specs.Limits.{most_parts}
use Rattle.rctl_parts.specs.declared.part.Part.{Part}
use Rattle.rctl_parts.specs.Pieces.{pieces, pieces_of, disjuncts_of}
use Rattle.rctl_parts.specs.MadeFor.{EachFits, AllFit}
use Rattle.part_pulls.specs.Observing.{scope_seen, lens_seen}
use Rattle.part_pulls.specs.Counters.{AllRise, CountersRise, counters_of_parts}
use Rattle.part_pulls.proofs.Rising.{disjunct_rises}
use Rattle.part_pulls.proofs.Taken.{disjunct_at, disjuncts_taken, disjunct_fits, all_taken}
use Rattle.certificate_nodes.specs.declared.plan.Plan.{Plan}
use Rattle.certificate_nodes.specs.Plans.{IsPlan}
use Rattle.certificate.specs.Numbering.{disjunct_count, nodes_in_all, asked_by_all}
use Rattle.certificate.proofs.Fitting.{plan_fits}
use Rattle.certificate.proofs.Steps.{Planned, planned_more, planned_all, disjunct_room}
use Rattle.certificate.proofs.plan.plan_of.Goals as goal

pub number_parts-requires-clause-fits : goal.number_parts-requires-clause-fits
number_parts-requires-clause-fits c =
    let seen = c.args.seen.now in
    let d = c.disjunct-item.result in
    let splits = disjunct_at c.args.disjuncts.now c.disjuncts.disjunct-index d c.disjuncts-test.true c.disjunct-item.is in
    let fits = disjunct_fits (scope_seen seen) (disjuncts_of (take c.disjuncts.disjunct-index c.args.disjuncts.now)) (pieces_of d) splits.later (subst (AllFit (scope_seen seen)) splits.is c.requires.fits) in
    subst (λ (parts : List Part). EachFits (scope_seen seen) (pieces_of parts)) (sym c.as_slice.ensures) fits

pub number_parts-requires-clause-counters : goal.number_parts-requires-clause-counters
number_parts-requires-clause-counters c =
    let seen = c.args.seen.now in
    let d = c.disjunct-item.result in
    let splits = disjunct_at c.args.disjuncts.now c.disjuncts.disjunct-index d c.disjuncts-test.true c.disjunct-item.is in
    let rise = disjunct_rises seen (disjuncts_of (take c.disjuncts.disjunct-index c.args.disjuncts.now)) (pieces_of d) splits.later (subst (CountersRise seen) splits.is c.requires.counters) in
    subst (λ (parts : List Part). AllRise seen (counters_of_parts (pieces_of parts))) (sym c.as_slice.ensures) rise

pub number_parts-requires-clause-count : goal.number_parts-requires-clause-count
number_parts-requires-clause-count c =
    let d = c.disjunct-item.result in
    let splits = disjunct_at c.args.disjuncts.now c.disjuncts.disjunct-index d c.disjuncts-test.true c.disjunct-item.is in
    subst (λ (parts : List Part). length c.disjuncts.nodes + disjunct_count (pieces_of parts) ≤ most_parts) (sym c.as_slice.ensures)
    (disjunct_room c.args.seen.now c.disjuncts.nodes c.disjuncts.asked (disjuncts_of c.args.disjuncts.now) (disjuncts_of (take c.disjuncts.disjunct-index c.args.disjuncts.now)) (pieces_of d) splits.later
    c.disjuncts.invariant splits.is c.requires.count)

pub disjuncts-preserved : goal.disjuncts-preserved
disjuncts-preserved c =
    let seen = c.args.seen.now in
    let all = c.args.disjuncts.now in
    let i = c.disjuncts.disjunct-index in
    let d = c.disjunct-item.result in
    let now = c.disjuncts.nodes in
    subst (Planned seen c.number_parts.new.nodes c.push.new.self) (sym (disjuncts_taken all i d c.disjuncts-test.true c.disjunct-item.is))
    (planned_more seen now c.number_parts.new.nodes c.disjuncts.asked c.push.new.self c.in_ok-parts.parts (disjuncts_of (take i all)) (pieces_of d) c.disjuncts.invariant
    (c.in_ok-parts.ensures.nodes ∙ ap (λ (parts : List Part). now ++ nodes_in_all seen (length now) (pieces (pieces_of parts))) c.as_slice.ensures)
    (c.in_ok-parts.ensures.asked ∙ ap (λ (parts : List Part). asked_by_all seen (length now) (pieces (pieces_of parts))) c.as_slice.ensures)
    c.in_ok-push.ensures.ok)

pub returns-clause-fits : goal.returns-clause-fits
returns-clause-fits c =
    let seen = c.args.seen.now in
    let ds = disjuncts_of c.args.disjuncts.now in
    let planned : Planned seen c.disjuncts.nodes c.disjuncts.asked ds =
    subst (Planned seen c.disjuncts.nodes c.disjuncts.asked) (all_taken c.args.disjuncts.now c.disjuncts.disjunct-index c.disjuncts-test.false) c.disjuncts.invariant in
    subst (λ (plan : Plan). IsPlan (lens_seen seen) plan) (sym (planned_all seen c.disjuncts.nodes c.disjuncts.asked ds planned))
    (plan_fits seen c.order-order.ensures.trace ds c.requires.fits c.requires.counters (omega (arith, c.requires.count)))
