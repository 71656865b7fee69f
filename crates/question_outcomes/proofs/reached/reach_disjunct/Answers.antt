use Rattle.std.proofs.Common.{◌≡◌, List, Option, Some, None, refl, sym, ◌∙◌, subst}
use Rattle.std.specs.Prelude.{IfSome}
use Rattle.run_model.specs.Cut.{Cut, Clocks}
use Rattle.run_model.specs.Consistent.{IsConsistent}
use Rattle.run_model.specs.Witness.{ForEf, IsCanonical}
use Rattle.rctl_grammar.specs.declared.tree.Operator.TheVariants as operator
use Rattle.rctl_parts.specs.Pieces.{Piece, pieces_of}
use Rattle.part_pulls.specs.declared.observed.Observed.{Observed}
use Rattle.part_pulls.specs.Observing.{clocks_seen}
use Rattle.part_pulls.proofs.Readings.{is_order, reading_of, reading_answers}
use Rattle.witness_kinds.specs.Views.{witness_of}
use Rattle.least_holding.specs.Least.{IsBottomHolding, IsLeastHolding}
use Rattle.question_outcomes.proofs.Taking.{over_tells}
use Rattle.question_outcomes.proofs.Reaching.{reached_somewhere, reached_nowhere}
use Rattle.question_outcomes.proofs.reached.reach_disjunct.Goals as goal

pub least_of-requires-clause-can : goal.least_of-requires-clause-can
least_of-requires-clause-can g c = over_tells c.args.seen.now operator.Ef (pieces_of c.args.disjunct.now) (pieces_of c.in-Some.parts.now) c.in-Some.ensures.is c.requires.can

consistent : (seen : Observed) (ps : List Piece) (least : Option Cut) → IsLeastHolding seen ps least → IfSome least (IsConsistent (clocks_seen seen))
consistent seen ps None least = tt
consistent seen ps (Some c) least = ((least (reading_of seen) (reading_answers seen)).member).0

pub reach_to-requires : goal.reach_to-requires
reach_to-requires g c =
    let seen = c.args.seen.now in
    let clocks : c.order.result.now ≡ clocks_seen seen = c.order.ensures.order ∙ sym c.order.ensures.trace.clocks in
    subst (λ (o : Clocks). IfSome c.in_ok-least.least (IsConsistent o)) (sym clocks) (consistent seen (pieces_of c.in-Some.parts.now) c.in_ok-least.least c.in_ok-least.ensures.least)

pub returns-in-Some-least-clause-reached : goal.returns-in-Some-least-clause-reached
returns-in-Some-least-clause-reached g c =
    let seen = c.args.seen.now in
    let ps = pieces_of c.in-Some.parts.now in
    let clocks : c.order.result.now ≡ clocks_seen seen = c.order.ensures.order ∙ sym c.order.ensures.trace.clocks in
    let is = c.in-Some-least.is in
    reached_somewhere seen (is_order seen c.order.ensures.trace) (pieces_of c.args.disjunct.now) ps c.in-Some.ensures c.in-Some-least.field-0
    (subst (IsLeastHolding seen ps) is c.in_ok-least.ensures.least) (subst (IsBottomHolding seen ps) is c.in_ok-least.ensures.bottom) c.args.number _
    (record {
      disjunct = refl;
      part = refl;
      canonical = λ s bottom. subst (λ (o : Clocks). IsCanonical o s ForEf (witness_of c.in_ok-witness.witness)) clocks (c.in_ok-witness.ensures s (bottom ∙ sym is));
    })

pub returns-clause-reached : goal.returns-clause-reached
returns-clause-reached g c =
    let seen = c.args.seen.now in
    let ps = pieces_of c.in-Some.parts.now in
    let clocks : c.order.result.now ≡ clocks_seen seen = c.order.ensures.order ∙ sym c.order.ensures.trace.clocks in
    let is = c.in-None.is in
    reached_nowhere seen (pieces_of c.args.disjunct.now) ps c.in-Some.ensures
    (subst (IsLeastHolding seen ps) is c.in_ok-least.ensures.least) (subst (IsBottomHolding seen ps) is c.in_ok-least.ensures.bottom) c.args.number _
    (record {
      disjunct = refl;
      part = refl;
      canonical = λ s bottom. subst (λ (o : Clocks). IsCanonical o s ForEf (witness_of c.in_ok-witness.witness)) clocks (c.in_ok-witness.ensures s (bottom ∙ sym is));
    })
