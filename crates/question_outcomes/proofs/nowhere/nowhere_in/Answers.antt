use Rattle.std.proofs.Common.{◌≡◌, ◌+◌, List, [], ◌∷◌, ◌++◌, length, take, sym, ◌∙◌, ap, subst, arith}
use Rattle.rctl_parts.specs.declared.part.Part.{Part}
use Rattle.rctl_parts.specs.Pieces.{Piece, pieces_of, disjuncts_of}
use Rattle.part_pulls.specs.Observing.{clocks_seen}
use Rattle.part_pulls.specs.Counters.{CountersRise}
use Rattle.part_pulls.proofs.Taken.{disjunct_at, disjuncts_taken, length-disjuncts}
use Rattle.conjunctions.specs.Settling.{CanAnswer}
use Rattle.question_outcomes.specs.inside.Nowhere.{AreNowhereIn, operand_of}
use Rattle.question_outcomes.specs.inside.Telling.{CanTell}
use Rattle.question_outcomes.proofs.Taking.{disjunct_tells, operand_tells}
use Rattle.question_outcomes.proofs.Placing.{nowhere_under, nowhere_as_before}
use Rattle.question_outcomes.proofs.nowhere.nowhere_in.Goals as goal
use Rattle.question_outcomes.proofs.nowhere.nowhere_in.Goals.{in-Some+in_ok-push_nowhere, in_default}
use Rattle.question_outcomes.specs.Telling.{HasSystem}

pub push_nowhere-requires-clause-can : goal.push_nowhere-requires-clause-can
push_nowhere-requires-clause-can g c =
    let seen = c.args.seen.now in
    let splits = disjunct_at c.args.asked.now c.asked.index c.index-asked-index.result c.asked-test.true c.index-asked-index.is in
    let tells = disjunct_tells seen (disjuncts_of (take c.asked.index c.args.asked.now)) (pieces_of c.index-asked-index.result) splits.later (subst (CanAnswer seen) splits.is c.requires.can) (subst (CountersRise seen) splits.is c.requires.rise) in
    subst (CanTell seen) c.in-Some.ensures.some (operand_tells seen (pieces_of c.as_slice.result.now) (subst (λ (parts : List Part). CanTell seen (pieces_of parts)) (sym c.as_slice.ensures) tells))

pub asked-preserved : goal.asked-preserved
asked-preserved g c =
    let seen = c.args.seen.now in
    let all = c.args.asked.now in
    let i = c.asked.index in
    let d = pieces_of c.index-asked-index.result in
    let ds = disjuncts_of (take i all) in
    let taken : disjuncts_of (take (i + 1) all) ≡ ds ++ d ∷ [] = disjuncts_taken all i c.index-asked-index.result c.asked-test.true c.index-asked-index.is in
    let slice : operand_of d ≡ operand_of (pieces_of c.as_slice.result.now) = ap (λ (parts : List Part). operand_of (pieces_of parts)) (sym c.as_slice.ensures) in
    let number : i + 1 ≡ length ds + 1 = omega (arith, length-disjuncts all i (omega (arith, c.asked-test.true))) in
    let P : List (List Piece) → Type 0 = λ es. AreNowhereIn seen es c.match-operand.places in
    record {
      nowhere = subst P (sym taken) (elim c.match-operand.branch [
        | in-Some+in_ok-push_nowhere w ↦ subst (AreNowhereIn seen (ds ++ d ∷ [])) (sym w.places-is)
            (nowhere_under seen ds d (pieces_of w.in-Some.parts.now) c.asked.places w.push_nowhere.new.places (i + 1) c.asked.invariant.nowhere number (slice ∙ w.in-Some.ensures.some) w.in_ok-push_nowhere.ensures.adds)
        | in_default w ↦ subst (AreNowhereIn seen (ds ++ d ∷ [])) (sym w.places-is) (nowhere_as_before seen ds d c.asked.places c.asked.invariant.nowhere (slice ∙ w.in_default.ensures.none))
      ]);
      system = elim c.match-operand.branch [
        | in-Some+in_ok-push_nowhere w ↦ subst (HasSystem (clocks_seen seen)) (sym w.system-is) w.in_ok-push_nowhere.ensures.system
        | in_default w ↦ subst (HasSystem (clocks_seen seen)) (sym w.system-is) c.asked.invariant.system
      ];
    }
