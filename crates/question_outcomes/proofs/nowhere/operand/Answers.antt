use Rattle.std.proofs.Common.{◌≡◌, true, [], ◌∷◌, length, sym, ◌∙◌, ap, arith}
use Rattle.part_pulls.specs.Systems.{is_atom}
use Rattle.rctl_parts.specs.Pieces.{Piece, piece_of, pieces_of}
use Rattle.rctl_parts.proofs.Folds.{piece-Temporal}
use Rattle.rctl_parts.proofs.Rules as rules_of
use Rattle.rctl_parts.proofs.Spelling.{listed-pieces}
use Rattle.question_outcomes.specs.inside.Nowhere.{operand_of}
use Rattle.question_outcomes.proofs.Taking.{one_part, atom_operand}
use Rattle.question_outcomes.proofs.nowhere.operand.Goals as goal

pub returns-in-Temporal-clause-some : goal.returns-in-Temporal-clause-some
returns-in-Temporal-clause-some c =
    let one : length c.args.disjunct.now ≡ 1 = omega (arith, c.if-disjunct-ne1.false) in
    let is = ap piece_of c.in-Temporal.is ∙ piece-Temporal c.in-Temporal.operator c.in-Temporal.parts in
    ap operand_of (one_part c.args.disjunct.now c.index-disjunct-0.result one c.index-disjunct-0.is ∙ ap (λ (p : Piece). p ∷ []) is)
    ∙ listed-pieces (pieces_of c.in-Temporal.parts) ∙ ap pieces_of (sym c.as_slice.ensures)

pub returns-in-Local-clause-none : goal.returns-in-Local-clause-none
returns-in-Local-clause-none c =
    let one : length c.args.disjunct.now ≡ 1 = omega (arith, c.if-disjunct-ne1.false) in
    let p = piece_of c.index-disjunct-0.result in
    let is : is_atom p ≡ true = grind (arith, rules_of.pieces) in
    ap operand_of (one_part c.args.disjunct.now c.index-disjunct-0.result one c.index-disjunct-0.is) ∙ atom_operand p is
