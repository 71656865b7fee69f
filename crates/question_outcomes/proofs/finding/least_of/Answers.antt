use Rattle.std.proofs.Common.{arith}
use Rattle.std.proofs.lemmas.List.{length-map}
use Rattle.rctl_parts.specs.Pieces.{piece_of, pieces_of}
use Rattle.question_outcomes.proofs.Taking.{few_parts}
use Rattle.question_outcomes.proofs.finding.least_of.Goals as goal

pub least_holding-requires-clause-few : goal.least_holding-requires-clause-few
least_holding-requires-clause-few g c =
    let few = few_parts (pieces_of c.args.parts.now) in
    let most = c.requires.can.count in
    omega (arith, length-map c.args.parts.now piece_of)
