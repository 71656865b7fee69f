use Rattle.std.proofs.Common.{List, Option, sym, subst}
use Rattle.std.specs.Prelude.{IfSome}
use Rattle.rctl_parts.specs.declared.part.Part.{Part}
use Rattle.rctl_parts.specs.Pieces.{disjuncts_of}
use Rattle.slice_workers.specs.Views.{SettledView}
use Rattle.pull_system.specs.System.{SystemView}
use Rattle.rctl_parts.specs.MadeFor.{AreMadeFor}
use Rattle.part_pulls.specs.Observing.{clocks_seen, scope_seen}
use Rattle.conjunctions.specs.Numbering.{all_conjunctions}
use Rattle.slice_graph.specs.Growing.{IsEarlierSystem}
use Rattle.conjunctions.specs.Settling.{AreFloors}
use Rattle.answering.proofs.answering.answer_seen.Goals as goal

pub answer_all-requires-clause-made : goal.answer_all-requires-clause-made
answer_all-requires-clause-made g c κs within =
    let made = subst (λ (ds : List (List Part)). AreMadeFor (scope_seen c.args.seen.now) (disjuncts_of ds)) (sym c.as_slice.ensures) c.requires.made in
    record { fit = made.fit; few = made.few; parts = made.parts }

pub answer_all-requires-clause-begins : goal.answer_all-requires-clause-begins
answer_all-requires-clause-begins g c κs within =
    let seen = c.args.seen.now in
    record {
      floors =
          subst (λ (rows : List SettledView). AreFloors seen rows (all_conjunctions (disjuncts_of c.as_slice.result.now))) (sym c.begin_round-round.ensures.before)
          (subst (λ (ds : List (List Part)). AreFloors seen c.args.kept.now.settled (all_conjunctions (disjuncts_of ds))) (sym c.as_slice.ensures) c.requires.floors);
      order = record { own = subst (λ (system : Option SystemView). IfSome system (IsEarlierSystem (clocks_seen seen))) (sym c.begin_round-round.ensures.system) c.requires.system };
    }
