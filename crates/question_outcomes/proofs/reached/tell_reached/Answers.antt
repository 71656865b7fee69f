use Rattle.std.proofs.Common.{◌≡◌, ℕ, ◌+◌, Bool, true, false, List, [], ◌∷◌, ◌++◌, length, take, sym, subst, arith}
use Rattle.rctl_parts.specs.declared.part.Part.{Part}
use Rattle.rctl_parts.specs.Pieces.{Piece, pieces_of, disjuncts_of}
use Rattle.part_pulls.specs.Counters.{CountersRise}
use Rattle.part_pulls.proofs.Taken.{disjunct_at, disjuncts_taken, length-disjuncts, all_taken}
use Rattle.conjunctions.specs.Settling.{CanAnswer}
use Rattle.question_outcomes.specs.declared.told.Reached.TheVariants.{Somewhere, Nowhere}
use Rattle.question_outcomes.specs.inside.Telling.{CanTell, IsReached, IsTold}
use Rattle.question_outcomes.proofs.Taking.{disjunct_tells}
use Rattle.question_outcomes.proofs.Reaching.{AreFalse, false_more, told_false, told_at}
use Rattle.question_outcomes.proofs.reached.tell_reached.Goals as goal

pub reach_disjunct-requires-clause-can : goal.reach_disjunct-requires-clause-can
reach_disjunct-requires-clause-can g c =
    let seen = c.args.seen.now in
    let splits = disjunct_at c.args.asked.now c.asked.index c.index-asked-index.result c.asked-test.true c.index-asked-index.is in
    let tells = disjunct_tells seen (disjuncts_of (take c.asked.index c.args.asked.now)) (pieces_of c.index-asked-index.result) splits.later (subst (CanAnswer seen) splits.is c.requires.can) (subst (CountersRise seen) splits.is c.requires.rise) in
    subst (λ (parts : List Part). CanTell seen (pieces_of parts)) (sym c.as_slice.ensures) tells

pub returns-in-Somewhere-clause-told : goal.returns-in-Somewhere-clause-told
returns-in-Somewhere-clause-told g c =
    let seen = c.args.seen.now in
    let all = c.args.asked.now in
    let i = c.asked.index in
    let d = pieces_of c.index-asked-index.result in
    let ds = disjuncts_of (take i all) in
    let text = c.in-Somewhere.text in
    let splits = disjunct_at all i c.index-asked-index.result c.asked-test.true c.index-asked-index.is in
    let number : i + 1 ≡ length ds + 1 = omega (arith, length-disjuncts all i (omega (arith, c.asked-test.true))) in
    let reached = subst (λ (n : ℕ). IsReached seen n d (Somewhere text)) number (subst (IsReached seen (i + 1) d) c.in-Somewhere.is
    (subst (λ (parts : List Part). IsReached seen (i + 1) (pieces_of parts) c.in_ok-text.field-0) c.as_slice.ensures c.in_ok-text.ensures.reached)) in
    let told = told_at seen ds d splits.later c.asked.witnesses text c.asked.invariant.all reached in
    let made = c.in_ok-told_true-in-Somewhere in
    subst (IsTold seen (disjuncts_of all) made.field-0.truth) (sym made.ensures.witnesses)
    (subst (λ (b : Bool). IsTold seen (disjuncts_of all) b (text ∷ [])) (sym made.ensures.truth) (subst (λ (es : List (List Piece)). IsTold seen es true (text ∷ [])) (sym splits.is) told))

pub asked-preserved : goal.asked-preserved
asked-preserved g c =
    let seen = c.args.seen.now in
    let all = c.args.asked.now in
    let i = c.asked.index in
    let d = pieces_of c.index-asked-index.result in
    let ds = disjuncts_of (take i all) in
    let text = c.in-Nowhere.text in
    let number : i + 1 ≡ length ds + 1 = omega (arith, length-disjuncts all i (omega (arith, c.asked-test.true))) in
    let taken : disjuncts_of (take (i + 1) all) ≡ ds ++ d ∷ [] = disjuncts_taken all i c.index-asked-index.result c.asked-test.true c.index-asked-index.is in
    let reached = subst (λ (n : ℕ). IsReached seen n d (Nowhere text)) number (subst (IsReached seen (i + 1) d) c.in-Nowhere.is
    (subst (λ (parts : List Part). IsReached seen (i + 1) (pieces_of parts) c.in_ok-text.field-0) c.as_slice.ensures c.in_ok-text.ensures.reached)) in
    record {
      all = subst (λ (es : List (List Piece)). AreFalse seen es c.push.new.self) (sym taken)
          (subst (AreFalse seen (ds ++ d ∷ [])) (sym c.in_ok-push-in-Nowhere.ensures.ok) (false_more seen ds d c.asked.witnesses text c.asked.invariant.all reached));
      system = c.in_ok-text.ensures.system;
    }

pub returns-clause-told : goal.returns-clause-told
returns-clause-told g c =
    let seen = c.args.seen.now in
    subst (λ (es : List (List Piece)). IsTold seen es false c.asked.witnesses) (all_taken c.args.asked.now c.asked.index c.asked-test.false)
    (told_false seen (disjuncts_of (take c.asked.index c.args.asked.now)) c.asked.witnesses c.asked.invariant.all)
