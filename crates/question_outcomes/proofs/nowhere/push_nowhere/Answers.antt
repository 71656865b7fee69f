use Rattle.std.proofs.Common.{◌≡◌, ℕ, ◌+◌, ◌-◌, List, [], ◌∷◌, ◌++◌, take, drop, sym, ◌∙◌, ap, subst, arith}
use Rattle.std.proofs.lemmas.List.{length-map}
use Rattle.rctl_parts.specs.Pieces.{Piece, piece_of, pieces_of}
use Rattle.question_outcome.specs.declared.outcome.PartPlace.{PartPlace}
use Rattle.question_outcomes.specs.inside.Nowhere.{AddsNowhere, TellsNowhere}
use Rattle.question_outcomes.specs.inside.Telling.{CanTell}
use Rattle.part_pulls.proofs.Taken.{length-taken}
use Rattle.question_outcomes.proofs.Taking.{part_tells, part_alone, few_parts}
use Rattle.question_outcomes.proofs.Placing.{adds_none, adds_told, adds_untold}
use Rattle.question_outcomes.proofs.nowhere.push_nowhere.Goals as goal
use Rattle.question_outcomes.proofs.nowhere.push_nowhere.Goals.{then-branch+in_ok-push, else-branch}

pub parts-init : goal.parts-init
parts-init g c = record { adds = adds_none c.args.seen.now c.args.disjunct 1 c.args.places.now; system = c.requires.system }

pub is_nowhere-requires-clause-can : goal.is_nowhere-requires-clause-can
is_nowhere-requires-clause-can g c =
    let seen = c.args.seen.now in
    let parts = c.args.parts.now in
    let i = c.parts.index in
    let alone = part_alone parts i c.parts-test.true in
    let one : i + 1 - i ≡ 1 = omega arith in
    subst (CanTell seen) (sym (ap (λ (n : ℕ). pieces_of (take n (drop i parts))) one ∙ alone.alone))
    (part_tells seen (pieces_of (take i parts)) alone.part alone.later (subst (CanTell seen) alone.all c.requires.can))

pub overflow_cast-index : goal.overflow_cast-index
overflow_cast-index g c =
    let few = few_parts (pieces_of c.args.parts.now) in
    let most = c.requires.can.count in
    omega (arith, length-map c.args.parts.now piece_of, c.parts-test.true)

pub overflow_add-index-then-branch : goal.overflow_add-index-then-branch
overflow_add-index-then-branch g c =
    let few = few_parts (pieces_of c.args.parts.now) in
    let most = c.requires.can.count in
    omega (arith, length-map c.args.parts.now piece_of, c.parts-test.true)

pub parts-preserved : goal.parts-preserved
parts-preserved g c =
    let seen = c.args.seen.now in
    let n = c.args.disjunct in
    let parts = c.args.parts.now in
    let i = c.parts.index in
    let old = c.args.places.now in
    let alone = part_alone parts i c.parts-test.true in
    let one : i + 1 - i ≡ 1 = omega arith in
    let tells : TellsNowhere seen (alone.part ∷ []) c.in_ok-is_nowhere.field-0 =
    subst (λ (ps : List Piece). TellsNowhere seen ps c.in_ok-is_nowhere.field-0) (ap (λ (m : ℕ). pieces_of (take m (drop i parts))) one ∙ alone.alone) c.in_ok-is_nowhere.ensures.nowhere in
    let P : List PartPlace → Type 0 = λ places. AddsNowhere seen n 1 (pieces_of (take (i + 1) parts)) old places in
    record {
      adds = elim c.if-branch.branch [
        | then-branch+in_ok-push w ↦ subst P (sym (w.places-is ∙ w.in_ok-push.ensures.ok))
            (subst (λ (ps : List Piece). AddsNowhere seen n 1 ps old (c.parts.places ++ record { disjunct = n; part = i + 1 } ∷ [])) (sym alone.taken)
            (adds_told seen n (pieces_of (take i parts)) alone.part old c.parts.places _ c.parts.invariant.adds (subst (TellsNowhere seen (alone.part ∷ [])) w.if-branch.true tells)
            (ap (λ (k : ℕ). record { disjunct = n; part = k + 1 }) (sym (length-taken parts i (omega (arith, c.parts-test.true)))))))
        | else-branch w ↦ subst P (sym w.places-is)
            (subst (λ (ps : List Piece). AddsNowhere seen n 1 ps old c.parts.places) (sym alone.taken)
            (adds_untold seen n (pieces_of (take i parts)) alone.part old c.parts.places c.parts.invariant.adds (subst (TellsNowhere seen (alone.part ∷ [])) w.if-branch.false tells)))
      ];
      system = c.in_ok-is_nowhere.ensures.system;
    }
