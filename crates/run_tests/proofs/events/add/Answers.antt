use Rattle.std.proofs.Common.{◌≡◌, ◌<◌, ◌∙◌, ap, sym, subst, length, arith, get_or, List, []}
use Rattle.std.specs.List.{AllByRecursion}
use Rattle.std.proofs.lemmas.Result.{on_ok_weaker}
use Rattle.event_log.specs.States.{IsKnown}
use Rattle.event_log.specs.declared.log.Assign.{Assign}
use Rattle.vector_clock.specs.Events.{EventFits}
use Rattle.vector_clock.proofs.BatchLaws.{fits_more}
use Rattle.trace_growth.proofs.Batches.{known_more}
use Rattle.run_tests.proofs.events.add.Goals as goal

pub returns-clause-fits : goal.returns-clause-fits
returns-clause-fits c =
    let width : length c.from_vec-clock.result ≡ length c.args.clock.now = ap length (c.from_vec-clock.ensures ∙ c.in_ok-from_slice.ensures.items) in
    on_ok_weaker c.push.result (λ made fits. subst (AllByRecursion (EventFits (length c.args.clock.now))) (sym made)
    (fits_more (length c.args.clock.now) c.args.batch.now _ fits (record { clock = record { process = c.requires.process; width = width }; peer = c.requires.peer }))) c.push.ensures.ok

pub returns-clause-known : goal.returns-clause-known
returns-clause-known c =
    on_ok_weaker c.push.result (λ made. λ h procs known. subst (AllByRecursion (IsKnown h)) (sym made) (known_more h c.args.batch.now _ known (record { process = omega (arith, procs, c.requires.process); assigns = subst (λ (as_ : List Assign). AllByRecursion (λ (a : Assign). a.variable < length (get_or h.vars c.args.process [])) as_) (sym c.new.ensures) tt }))) c.push.ensures.ok
