use Rattle.std.specs.Prelude.{map, string_bytes}
use Rattle.std.proofs.Common.{inr, refl}
use Rattle.ask_top.proofs.Observing.{known_on, observed_for}
use Rattle.ask_top.proofs.observed.answer_log.Goals as goal

pub answer_observed-requires-clause-observed : goal.answer_observed-requires-clause-observed
answer_observed-requires-clause-observed g c κs within = (
  c.args.watches.items,
  c.args.log,
  observed_for (λ h. (goal.Watch-dyn g (h.watch.vtable, h.watch.value)).answers h.watch.value) c.args.watches.items (map string_bytes c.args.texts.now) c.args.asked c.args.log c.in-Ok.observed c.requires.asked c.requires.watches c.requires.log c.in-Ok.ensures.observed c.as_slice-overs.result.now c.as_slice-overs.ensures,
)

pub returns-in-Ok-answer_observed-clause-told : goal.returns-in-Ok-answer_observed-clause-told
returns-in-Ok-answer_observed-clause-told g c =
    c.in-Ok-answer_observed.ensures.told c.args.watches.items c.args.log
    (observed_for (λ h. (goal.Watch-dyn g (h.watch.vtable, h.watch.value)).answers h.watch.value) c.args.watches.items (map string_bytes c.args.texts.now) c.args.asked c.args.log c.in-Ok.observed c.requires.asked c.requires.watches c.requires.log c.in-Ok.ensures.observed c.as_slice-overs.result.now c.as_slice-overs.ensures)

pub returns-in-Err-Fault-clause-stopped : goal.returns-in-Err-Fault-clause-stopped
returns-in-Err-Fault-clause-stopped g c = inr (record {
  stop = c.in-Err-Fault.stop;
  is = refl;
  known = known_on (λ h. (goal.Watch-dyn g (h.watch.vtable, h.watch.value)).answers h.watch.value) c.args.watches.items c.args.asked.list c.args.log c.in-Ok.observed c.in-Ok.ensures.observed;
  first =
      (rw c.in-Err-Fault.field-0-is at c.in-Err-Fault.ensures.stopped) c.args.watches.items c.args.log
      (observed_for (λ h. (goal.Watch-dyn g (h.watch.vtable, h.watch.value)).answers h.watch.value) c.args.watches.items (map string_bytes c.args.texts.now) c.args.asked c.args.log c.in-Ok.observed c.requires.asked c.requires.watches c.requires.log c.in-Ok.ensures.observed c.as_slice-overs.result.now c.as_slice-overs.ensures);
})
