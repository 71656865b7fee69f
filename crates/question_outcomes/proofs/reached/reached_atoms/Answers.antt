use Rattle.std.proofs.Common.{◌≡◌, List, [], ◌∷◌, length, sym, ◌∙◌, ap, arith}
use Rattle.rctl_grammar.specs.declared.tree.Operator.{Operator}
use Rattle.rctl_grammar.specs.declared.tree.Operator.TheVariants as operator
use Rattle.rctl_parts.specs.declared.part.Part.{Part}
use Rattle.rctl_parts.specs.Pieces.{Piece, piece_of, pieces_of, pieces, temporal}
use Rattle.rctl_parts.proofs.Folds.{piece-Temporal}
use Rattle.least_holding.specs.Least.{are_atoms}
use Rattle.question_outcomes.proofs.Taking.{one_part}
use Rattle.question_outcomes.proofs.reached.reached_atoms.Goals as goal

pub returns-then-are_atoms : goal.returns-then-are_atoms
returns-then-are_atoms c =
    let one : length c.args.disjunct.now ≡ 1 = omega (arith, c.if-disjunct-ne1.false) in
    let parts = c.in-Temporal.parts in
    let is = ap piece_of c.in-Temporal.is ∙ piece-Temporal c.in-Temporal.operator parts in
    let slice = c.as_slice-then-are_atoms.ensures in
    let ef = c.is_ef.ensures c.if-is_ef.true in
    record {
      is = one_part c.args.disjunct.now c.index-disjunct-0.result one c.index-disjunct-0.is ∙ ap (λ (p : Piece). p ∷ []) (is ∙ ap (λ (o : Operator). temporal o (pieces (pieces_of parts))) ef)
          ∙ ap (λ (ps : List Part). temporal operator.Ef (pieces (pieces_of ps)) ∷ []) (sym slice);
      atoms = ap (λ (ps : List Part). are_atoms (pieces_of ps)) (slice ∙ sym c.as_slice.ensures) ∙ sym c.are_atoms.ensures ∙ c.if-are_atoms.true;
    }
