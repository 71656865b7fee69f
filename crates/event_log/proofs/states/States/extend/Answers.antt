use Rattle.std.proofs.Common.{◌≤◌, ◌+◌, ◌∙◌, sym, ap, subst, sum, map, length, arith, List}
use Rattle.std.specs.List.{AllByRecursion}
use Rattle.pota_base.specs.Limits.{most_events}
use Rattle.event_log.specs.declared.log.Event.{Event}
use Rattle.event_log.specs.States.{StatesView, IsKnown}
use Rattle.event_log.specs.inside.States.{HasRoom}
use Rattle.event_log.proofs.Growing.{grown_fits}
use Rattle.event_log.proofs.Keeping.{count_is, lens_in-events, known_room, states_grown, added_sum}
use Rattle.event_log.proofs.states.States.extend.Goals as goal

pub extend-requires-clause-procs : goal.extend-requires-clause-procs
extend-requires-clause-procs c =
    omega (arith, count_is c.self.inside.header c.self.inside.shape c.self.inside.histories c.self.invariant, c.self.invariant.fits.few, c.self.invariant.fits.vars)

pub extend-requires-clause-room : goal.extend-requires-clause-room
extend-requires-clause-room c =
    let known = subst (λ (s : StatesView). AllByRecursion (IsKnown s.header) c.args.batch) (sym c.self.view_is) c.requires.known in
    subst (λ (b : List Event). AllByRecursion (HasRoom c.self.inside.histories) b) (sym c.into_vec.ensures)
    (known_room c.self.inside.header c.self.inside.shape c.self.inside.histories c.args.batch c.self.invariant known)

pub extend-requires-clause-shape : goal.extend-requires-clause-shape
extend-requires-clause-shape c = c.self.invariant.lens ∙ lens_in-events c.self.inside.histories

pub measure-requires-clause-fits : goal.measure-requires-clause-fits
measure-requires-clause-fits c = grown_fits c.self.inside.shape c.self.inside.histories c.extend.new.self c.in_ok-extend.ensures.ok.grown c.self.invariant.lens

pub measure-requires-clause-few : goal.measure-requires-clause-few
measure-requires-clause-few c =
    let few = subst (λ (s : StatesView). sum (map length s.events) + length c.args.batch ≤ most_events) (sym c.self.view_is) c.requires.few in
    added_sum _ _ _ c.in_ok-extend.ensures.ok (omega (arith, few, ap length c.into_vec.ensures))

pub invariant_of-self-2 : goal.invariant_of-self-2
invariant_of-self-2 c = states_grown _ _ c.measure.new.shape _ _ c.self.invariant c.in_ok-extend.ensures.ok.grown c.measure.ensures
