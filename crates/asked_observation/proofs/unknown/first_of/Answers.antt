use Rattle.std.proofs.Common.{sym, subst, length, arith}
use Rattle.rctl_names.specs.Numbers.{known_in}
use Rattle.rctl_names.specs.Seen.{names_of}
use Rattle.rctl_grammar.specs.declared.fault.FormulaFault.{FormulaFault}
use Rattle.asked_observation.proofs.Fronts.{HasUnknown, whole_front, shorter, front_some, behind, in_the_first}
use Rattle.asked_observation.proofs.unknown.first_of.Goals as goal

pub fronts-init : goal.fronts-init
fronts-init c = (whole_front c.args.classed.disjuncts, c.requires.unknown)

pub resolve-requires-clause-disjuncts : goal.resolve-requires-clause-disjuncts
resolve-requires-clause-disjuncts c =
    let ds = c.args.classed.disjuncts in
    let many = c.fronts-test.true in
    let less = shorter ds c.fronts.front.disjuncts c.without_last-front.result.disjuncts c.fronts.invariant.0 (omega (arith, many, c.len.ensures)) c.without_last-front.ensures in
    front_some (length c.without_last-front.result.disjuncts) ds c.requires.few c.without_last-front.result.disjuncts less.0 (omega (arith, less.1, many, c.len.ensures))

pub returns-in-Ok : goal.returns-in-Ok
returns-in-Ok c =
    let ds = c.args.classed.disjuncts in
    let known = known_in (names_of c.args.header.now c.args.names.now) in
    let many = c.fronts-test.true in
    let less = shorter ds c.fronts.front.disjuncts c.without_last-front.result.disjuncts c.fronts.invariant.0 (omega (arith, many, c.len.ensures)) c.without_last-front.ensures in
    rw c.len-before.ensures
    (behind known ds c.fronts.front.disjuncts c.without_last-front.result.disjuncts c.fronts.fault c.fronts.invariant.0 c.fronts.invariant.1 less.0 (omega (arith, less.1, many, c.len.ensures)) c.in-Ok.ensures.free)

pub fronts-preserved : goal.fronts-preserved
fronts-preserved c =
    let ds = c.args.classed.disjuncts in
    let many = c.fronts-test.true in
    let less = shorter ds c.fronts.front.disjuncts c.without_last-front.result.disjuncts c.fronts.invariant.0 (omega (arith, many, c.len.ensures)) c.without_last-front.ensures in (
      less.0,
      subst (λ (f : FormulaFault). HasUnknown (known_in (names_of c.args.header.now c.args.names.now)) c.without_last-front.result.disjuncts f) (sym c.in-Err-Fault.earlier-is)
          (rw c.in-Err-Fault.field-0-is at c.in-Err-Fault.ensures),
    )

pub returns : goal.returns
returns c =
    let few = c.fronts-test.false in
    in_the_first (known_in (names_of c.args.header.now c.args.names.now)) c.args.classed.disjuncts c.fronts.front.disjuncts c.fronts.fault c.fronts.invariant.0 c.fronts.invariant.1 (omega (arith, few, c.len.ensures))
