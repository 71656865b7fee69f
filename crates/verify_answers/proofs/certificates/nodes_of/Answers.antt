use Rattle.std.proofs.Common.{◌≤◌, List, subst, sym}
use Rattle.pota_base.specs.Limits.{most_parts}
use Rattle.rctl_parts.specs.declared.part.Part.{Part}
use Rattle.rctl_parts.specs.Pieces.{disjuncts_of}
use Rattle.rctl_parts.specs.MadeFor.{AllFit, disjuncts_count}
use Rattle.part_pulls.specs.Counters.{CountersRise}
use Rattle.part_pulls.specs.Observing.{scope_seen}
use Rattle.verify_answers.proofs.certificates.nodes_of.Goals as goal

pub nodes_for-requires-clause-ready : goal.nodes_for-requires-clause-ready
nodes_for-requires-clause-ready c = c.requires.ready

pub nodes_for-requires-clause-fits : goal.nodes_for-requires-clause-fits
nodes_for-requires-clause-fits c =
    subst (λ (ps : List (List Part)). AllFit (scope_seen c.args.seen) (disjuncts_of ps)) (sym c.as_slice.ensures) c.requires.made.fit

pub nodes_for-requires-clause-counters : goal.nodes_for-requires-clause-counters
nodes_for-requires-clause-counters c =
    subst (λ (ps : List (List Part)). CountersRise c.args.seen (disjuncts_of ps)) (sym c.as_slice.ensures) c.requires.rise

pub nodes_for-requires-clause-count : goal.nodes_for-requires-clause-count
nodes_for-requires-clause-count c =
    subst (λ (ps : List (List Part)). disjuncts_count (disjuncts_of ps) ≤ most_parts) (sym c.as_slice.ensures) c.requires.made.parts
