use Rattle.std.specs.Prelude.{map, string_bytes}
use Rattle.std.proofs.Common.{refl}
use Rattle.ask_top.proofs.Observing.{bare_so, can_be_told, named, told_so}
use Rattle.ask_top.proofs.observed.answer_observed.Goals as goal

pub answer_overs-requires-clause-seen : goal.answer_overs-requires-clause-seen
answer_overs-requires-clause-seen g c κs within =
    bare_so (λ h. (goal.Watch-dyn g (h.watch.vtable, h.watch.value)).answers h.watch.value) c.requires.observed.0 (map string_bytes c.args.texts.now) c.args.overs.now c.requires.observed.1 c.args.observed c.requires.observed.2
    c.seen.ensures.trace c.without_watches-seen.result c.without_watches-seen.ensures

pub answer_overs-requires-clause-named : goal.answer_overs-requires-clause-named
answer_overs-requires-clause-named g c κs within =
    named c.args.observed.list (map string_bytes c.args.texts.now) c.args.overs.now c.args.observed.list.listed c.requires.observed.2.asked.each

pub document_of-requires : goal.document_of-requires
document_of-requires g c =
    can_be_told (λ h. (goal.Watch-dyn g (h.watch.vtable, h.watch.value)).answers h.watch.value) c.requires.observed.0 (map string_bytes c.args.texts.now) c.args.overs.now c.requires.observed.1 c.args.observed c.requires.observed.2
    c.seen.ensures.trace c.seen.ensures.answers c.in_ok-came.came c.as_slice-listed.result.now c.as_slice-listed.ensures c.in_ok-came.ensures
    c.without_watches-seen.result c.without_watches-seen.ensures c.in_ok-tallies.tallies c.in_ok-tallies.ensures.tallies c.states.result.now c.states.ensures.states c.in_ok-tallies.tallies c.in_ok-came.came refl refl

pub returns-clause-told : goal.returns-clause-told
returns-clause-told g c handed log for =
    told_so (λ h. (goal.Watch-dyn g (h.watch.vtable, h.watch.value)).answers h.watch.value) handed (map string_bytes c.args.texts.now) c.args.overs.now log c.args.observed for
    c.seen.ensures.trace c.seen.ensures.answers c.in_ok-came.came c.as_slice-listed.result.now c.as_slice-listed.ensures c.in_ok-came.ensures
    c.without_watches-seen.result c.without_watches-seen.ensures c.in_ok-tallies.tallies c.in_ok-tallies.ensures.tallies c.states.result.now c.states.ensures.states c.in_ok-tallies.tallies c.in_ok-came.came refl refl c.args.steps c.in_ok-made.made.text c.in_ok-made.made.holds c.in_ok-made.ensures.text c.in_ok-made.ensures.holds
