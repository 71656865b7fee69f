use Rattle.std.proofs.Common.{length, refl, ap, ◌∙◌}
use Rattle.run_model.proofs.Counts.{length-with_next}
use Rattle.witness.specs.Views.{places_of}
use Rattle.witness.proofs.Leads.{steps_last, turn, room, nearer, arrived}
use Rattle.witness.proofs.CaseSteps.{no_steps}
use Rattle.witness.proofs.walk.walk.Goals as goal

pub walk-init : goal.walk-init
walk-init g c = record { steps = no_steps (g.W.Way.holds c.args.way.now) c.args.start c.new-steps.result c.new-steps.ensures c.requires.start; width = refl }

pub next-requires-clause-at : goal.next-requires-clause-at
next-requires-clause-at g c = steps_last (g.W.Way.holds c.args.way.now) c.args.start (places_of c.walk.steps) c.walk.at c.walk.invariant.steps

pub take-event-requires-clause-room : goal.take-event-requires-clause-room
take-event-requires-clause-room g c = room (g.W.Way.holds c.args.way.now) c.args.goal.now c.walk.at c.in-Some.process c.requires.leads c.in-Some.ensures c.requires.small

pub walk-smaller : goal.walk-smaller
walk-smaller g c = nearer (g.W.Way.holds c.args.way.now) c.args.goal.now c.walk.at c.take-event.new.at c.in-Some.process c.requires.leads c.in-Some.ensures c.take-event.ensures.at

pub walk-preserved : goal.walk-preserved
walk-preserved g c = record {
  steps = turn (g.W.Way.holds c.args.way.now) c.args.start c.walk.steps c.push.new.self c.walk.at c.take-event.new.at c.in-Some.process c.take-event.result c.walk.invariant.steps c.in-Some.ensures c.take-event.ensures.at c.take-event.ensures.event c.in_ok-push.ensures.ok;
  width = ap length c.take-event.ensures.at ∙ length-with_next c.walk.at c.in-Some.process ∙ c.walk.invariant.width;
}

pub returns : goal.returns
returns g c = arrived (g.W.Way.holds c.args.way.now) c.args.start c.args.goal.now c.walk.at (places_of c.walk.steps) c.requires.leads c.walk.invariant.steps c.in_default.ensures
