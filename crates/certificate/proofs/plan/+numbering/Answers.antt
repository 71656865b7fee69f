use Rattle.std.proofs.Common.{◌≡◌, ◌+◌, ◌≤◌, true, rules, List, length, take, sym, ◌∙◌, ap, subst, arith}
use Rattle.pota_base.specs.Limits.{most_parts}
use Rattle.rctl_grammar.specs.declared.tree.Operator.{Operator}
use Rattle.rctl_parts.specs.declared.part.Part.{Part}
use Rattle.rctl_parts.specs.declared.part.Part.TheVariants as part_of
use Rattle.rctl_parts.specs.declared.part.Part.TheViews.{the_lemmas}
use Rattle.rctl_parts.specs.Pieces.{Piece, piece_of, pieces_of, pieces, temporal}
use Rattle.rctl_parts.specs.MadeFor.{EachFits}
use Rattle.rctl_parts.proofs.Folds.{piece-Temporal}
use Rattle.rctl_parts.proofs.Rules as rules_of
use Rattle.part_pulls.specs.Observing.{scope_seen}
use Rattle.part_pulls.specs.Counters.{AllRise, counters_of_parts}
use Rattle.part_pulls.specs.Systems.{is_atom}
use Rattle.part_pulls.proofs.Rising.{rises_at, temporal_rises}
use Rattle.part_pulls.proofs.Taken.{splits_at, fits_at, taken_more}
use Rattle.certificate.specs.Numbering.{disjunct_count}
use Rattle.certificate.proofs.Steps.{Numbered, numbered_more, room_more}
use Rattle.certificate.proofs.Parts.{atom_nodes, atom_asks, temporal_fits, temporal_room, temporal_count, temporal_nodes, temporal_asks}
use Rattle.certificate.proofs.plan.+numbering.Goals as goal

pub number_parts-number_part-requires : goal.number_parts-number_part-requires
number_parts-number_part-requires t c =
    let seen = c.args.seen.now in
    let p = piece_of c.part-item.result in
    let ps = pieces_of (take c.parts.part-index c.args.parts.now) in
    let splits = splits_at c.args.parts.now c.parts.part-index c.part-item.result c.parts-test.true c.part-item.is in (
      search (rules, the_lemmas),
      (
        c.requires.ready,
        (
          fits_at (scope_seen seen) ps p splits.later (subst (EachFits (scope_seen seen)) splits.is c.requires.fits),
          (
            rises_at seen ps p splits.later (subst (λ (qs : List Piece). AllRise seen (counters_of_parts qs)) splits.is c.requires.counters),
            room_more seen c.args.nodes.now c.parts.nodes c.parts.asked (pieces_of c.args.parts.now) ps p splits.later c.parts.invariant splits.is c.requires.count,
          ),
        ),
      ),
    )

pub number_parts-parts-preserved : goal.number_parts-parts-preserved
number_parts-parts-preserved t c =
    let seen = c.args.seen.now in
    let all = c.args.parts.now in
    let i = c.parts.part-index in
    let part = c.part-item.result in
    subst (Numbered seen c.args.nodes.now c.number_part.new.nodes c.push.new.self) (sym (taken_more all i part c.parts-test.true c.part-item.is))
    (numbered_more seen c.args.nodes.now c.parts.nodes c.number_part.new.nodes c.parts.asked c.push.new.self c.in_ok-one.one (pieces_of (take i all)) (piece_of part) c.parts.invariant
    c.in_ok-one.ensures.nodes c.in_ok-one.ensures.asked c.in_ok-push.ensures.ok)

pub number_part-number_parts-requires : goal.number_part-number_parts-requires
number_part-number_parts-requires t c =
    let seen = c.args.seen.now in
    let p = piece_of c.args.part.now in
    let o = c.in-Temporal.operator in
    let ps = pieces_of c.in-Temporal.parts in
    let is : p ≡ temporal o (pieces ps) = ap piece_of c.in-Temporal.is ∙ piece-Temporal o c.in-Temporal.parts in
    let same : c.in-Temporal.parts ≡ c.as_slice.result.now = sym c.as_slice.ensures in (
      search (rules, the_lemmas),
      (
        c.requires.ready,
        (
          subst (λ (list : List Part). EachFits (scope_seen seen) (pieces_of list)) same (temporal_fits (scope_seen seen) p o ps is c.requires.fits),
          (
            subst (λ (list : List Part). AllRise seen (counters_of_parts (pieces_of list))) same (temporal_rises seen p o ps is c.requires.counters),
            subst (λ (list : List Part). length c.args.nodes.now + disjunct_count (pieces_of list) ≤ most_parts) same (omega (arith, temporal_room p o ps (length c.args.nodes.now) is c.requires.count)),
          ),
        ),
      ),
    )

-- the part, by its operand as it was lent
operator_is : (part : Part) (o : Operator) (parts lent : List Part) → part ≡ part_of.Temporal o parts → lent ≡ parts → piece_of part ≡ temporal o (pieces (pieces_of lent))
operator_is part o parts lent is same = ap piece_of is ∙ piece-Temporal o parts ∙ ap (λ (list : List Part). temporal o (pieces (pieces_of list))) (sym same)

pub number_part-overflow_cast-number : goal.number_part-overflow_cast-number
number_part-overflow_cast-number t c =
    let seen = c.args.seen.now in
    let p = piece_of c.args.part.now in
    let o = c.in-Temporal.operator in
    let ps = pieces_of c.as_slice.result.now in
    let is = operator_is c.args.part.now o c.in-Temporal.parts c.as_slice.result.now c.in-Temporal.is c.as_slice.ensures in
    omega (
      arith,
      c.len-number.ensures,
      temporal_count seen c.args.nodes.now c.number_parts.new.nodes ps c.in_ok-parts-in-Temporal.ensures.nodes,
      temporal_room p o ps (length c.args.nodes.now) is c.requires.count,
    )

pub number_part-pulls_of_atom-requires-clause-atom : goal.number_part-pulls_of_atom-requires-clause-atom
number_part-pulls_of_atom-requires-clause-atom t c = grind (arith, rules_of.pieces)

pub number_part-returns-in_ok-push-in-Temporal-clause-nodes : goal.number_part-returns-in_ok-push-in-Temporal-clause-nodes
number_part-returns-in_ok-push-in-Temporal-clause-nodes t c =
    let o = c.in-Temporal.operator in
    let is = operator_is c.args.part.now o c.in-Temporal.parts c.as_slice.result.now c.in-Temporal.is c.as_slice.ensures in
    temporal_nodes c.args.seen.now c.args.nodes.now c.number_parts.new.nodes c.push.new.self c.in_ok-parts-in-Temporal.parts (piece_of c.args.part.now) o (pieces_of c.as_slice.result.now) is
    c.in_ok-parts-in-Temporal.ensures.nodes c.in_ok-parts-in-Temporal.ensures.asked c.in_ok-push-in-Temporal.ensures.ok

pub number_part-returns-in_ok-push-in-Temporal-clause-asked : goal.number_part-returns-in_ok-push-in-Temporal-clause-asked
number_part-returns-in_ok-push-in-Temporal-clause-asked t c =
    let o = c.in-Temporal.operator in
    let is = operator_is c.args.part.now o c.in-Temporal.parts c.as_slice.result.now c.in-Temporal.is c.as_slice.ensures in
    temporal_asks c.args.seen.now c.args.nodes.now c.number_parts.new.nodes c.len-number.result (piece_of c.args.part.now) o (pieces_of c.as_slice.result.now) is
    c.in_ok-parts-in-Temporal.ensures.nodes c.len-number.ensures

pub number_part-returns-in_ok-found-in-Local-clause-nodes : goal.number_part-returns-in_ok-found-in-Local-clause-nodes
number_part-returns-in_ok-found-in-Local-clause-nodes t c =
    let is : is_atom (piece_of c.args.part.now) ≡ true = grind (arith, rules_of.pieces) in atom_nodes c.args.seen.now c.args.nodes.now (piece_of c.args.part.now) is

pub number_part-returns-in_ok-found-in-Local-clause-asked : goal.number_part-returns-in_ok-found-in-Local-clause-asked
number_part-returns-in_ok-found-in-Local-clause-asked t c =
    let is : is_atom (piece_of c.args.part.now) ≡ true = grind (arith, rules_of.pieces) in
    let found = c.in_ok-found-in-Local.found in
    atom_asks c.args.seen.now (length c.args.nodes.now) (piece_of c.args.part.now) found.pulls found.truth is c.in_ok-found-in-Local.ensures
