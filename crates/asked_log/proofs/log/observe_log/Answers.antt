use Rattle.std.proofs.Common.{List, ap, subst}
use Rattle.run_model.specs.Run.{Name}
use Rattle.trace_growth.specs.Growing.{TraceView}
use Rattle.asked_observation.specs.Observed.{IsObservedList}
use Rattle.asked_log.specs.Logs.{HasFall}
use Rattle.asked_log.proofs.Logged.{can_look_up, can_take, falls_so, names_so, observed_on}
use Rattle.asked_log.proofs.log.observe_log.Goals as goal

pub observe_list-requires-clause-header : goal.observe_list-requires-clause-header
observe_list-requires-clause-header g c = can_look_up c.args.watches.items c.args.log.header c.in-Ok.names c.requires.log.header c.requires.watches (names_so c.args.watches.items c.as_slice.result.now c.in-Ok.names c.as_slice.ensures.value c.in-Ok.ensures)

pub observe_all-requires-clause-can : goal.observe_all-requires-clause-can
observe_all-requires-clause-can g c = can_take c.args.log (c.in-Ok-observe_list.opened.observation.growing.seen.trace.states).header c.requires.log (ap (λ (t : TraceView). t.states.header) c.in-Ok-observe_list.ensures.fresh.0)

pub returns-in-Ok-observe_all-clause-observed : goal.returns-in-Ok-observe_all-clause-observed
returns-in-Ok-observe_all-clause-observed g c =
    observed_on (λ h. (goal.Watch-dyn g (h.watch.vtable, h.watch.value)).answers h.watch.value) c.args.watches.items c.args.list c.args.log c.requires.log c.in-Ok-observe_list.opened.observation c.in-Ok-observe_all.observation
    c.in-Ok-observe_list.ensures.fresh.0
    (subst (λ (ns : List Name). IsObservedList c.args.list ns c.in-Ok-observe_list.opened.observation.growing) (names_so c.args.watches.items c.as_slice.result.now c.in-Ok.names c.as_slice.ensures.value c.in-Ok.ensures) c.in-Ok-observe_list.ensures.observed)
    c.in-Ok-observe_list.ensures.since_start c.in-Ok-observe_all.ensures.ok c.in-Ok-observe_list.opened.list c.in-Ok-observe_list.ensures.list

pub returns-in-Err-Fault-observe_all-clause-stopped : goal.returns-in-Err-Fault-observe_all-clause-stopped
returns-in-Err-Fault-observe_all-clause-stopped g c =
    let fall = c.in-Err-Fault-observe_all.fall in (
      fall,
      subst (λ (ns : List Name). HasFall ns c.args.list c.args.log fall) (names_so c.args.watches.items c.as_slice.result.now c.in-Ok.names c.as_slice.ensures.value c.in-Ok.ensures)
          (falls_so c.args.list c.args.log c.in-Ok.names c.in-Ok-observe_list.opened.observation.growing c.in-Ok-observe_list.ensures.fresh.0 c.in-Ok-observe_list.ensures.observed fall
          (rw c.in-Err-Fault-observe_all.field-0-is at c.in-Err-Fault-observe_all.ensures.fault)),
      c.place.ensures,
    )
