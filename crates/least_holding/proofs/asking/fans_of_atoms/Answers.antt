use Rattle.std.proofs.Common.{◌≡◌, true, List, [], ◌∷◌, take, sym, subst}
use Rattle.pull_fans.specs.Fans.{pulls_of_fans}
use Rattle.rctl_parts.specs.Pieces.{Piece, piece_of, pieces_of}
use Rattle.rctl_parts.specs.MadeFor.{EachFits}
use Rattle.part_pulls.specs.Observing.{scope_seen}
use Rattle.part_pulls.specs.Counters.{AllRise, counters_of_parts}
use Rattle.part_pulls.proofs.Taken.{splits_at, taken_more, fits_at}
use Rattle.part_pulls.proofs.Rising.{rises_at}
use Rattle.least_holding.specs.Least.{are_atoms}
use Rattle.least_holding.specs.inside.Asking.{AsksMore}
use Rattle.least_holding.proofs.Asked.{asks_more, atom_at}
use Rattle.least_holding.proofs.asking.fans_of_atoms.Goals as goal

pub push_asked-requires-clause-atom : goal.push_asked-requires-clause-atom
push_asked-requires-clause-atom c =
    let splits = splits_at c.args.parts.now c.parts.part-index c.part-item.result c.parts-test.true c.part-item.is in
    atom_at (pieces_of (take c.parts.part-index c.args.parts.now)) (piece_of c.part-item.result) splits.later (subst (λ (ps : List Piece). are_atoms ps ≡ true) splits.is c.requires.atoms)

pub push_asked-requires-clause-fits : goal.push_asked-requires-clause-fits
push_asked-requires-clause-fits c =
    let splits = splits_at c.args.parts.now c.parts.part-index c.part-item.result c.parts-test.true c.part-item.is in
    fits_at (scope_seen c.args.seen.now) (pieces_of (take c.parts.part-index c.args.parts.now)) (piece_of c.part-item.result) splits.later (subst (EachFits (scope_seen c.args.seen.now)) splits.is c.requires.fits)

pub push_asked-requires-clause-counters : goal.push_asked-requires-clause-counters
push_asked-requires-clause-counters c =
    let splits = splits_at c.args.parts.now c.parts.part-index c.part-item.result c.parts-test.true c.part-item.is in
    rises_at c.args.seen.now (pieces_of (take c.parts.part-index c.args.parts.now)) (piece_of c.part-item.result) splits.later
    (subst (λ (ps : List Piece). AllRise c.args.seen.now (counters_of_parts ps)) splits.is c.requires.counters)

pub parts-preserved : goal.parts-preserved
parts-preserved c =
    let seen = c.args.seen.now in
    let taken = pieces_of (take c.parts.part-index c.args.parts.now) in
    subst (AsksMore seen [] (pulls_of_fans c.push_asked.new.fans)) (sym (taken_more c.args.parts.now c.parts.part-index c.part-item.result c.parts-test.true c.part-item.is))
    (asks_more seen [] (pulls_of_fans c.parts.fans) (pulls_of_fans c.push_asked.new.fans) taken (piece_of c.part-item.result ∷ []) c.parts.invariant c.in_ok-push_asked.ensures)
