use Rattle.std.proofs.Common.{◌<◌, length, ◌∙◌, ap, sym, refl, arith}
use Rattle.std.proofs.lemmas.Option.{slice_get_read}
use Rattle.watch_feeding.proofs.InTurn.{may_be_fed, turn_passes, turn_taken}
use Rattle.watch_feeding.proofs.feeding.feed_watches.Goals as goal
use Rattle.watch_feeding.proofs.feeding.feed_watches.Goals.{in-Some, in_default}

pub feed_row-requires-clause-row : goal.feed_row-requires-clause-row
feed_row-requires-clause-row g c =
    may_be_fed c.args.states.now c.args.watch_process.now c.args.from.now c.args.rows.now c.loop-w.rows c.loop-w.w c.in-Some.process c.requires.rows c.in-Some.is
    c.requires.full c.requires.from c.loop-w.invariant.rows

pub loop-w-preserved : goal.loop-w-preserved
loop-w-preserved g c = elim c.match-watch_process-w.branch [
  | in-Some w ↦
      let so_far = c.loop-w.invariant in
      let there : c.loop-w.w < length c.loop-w.watches.items = omega (arith, c.loop-w-test.true, c.len-w-end.ensures, so_far.count) in
      let was_full = c.requires.full w.in-Some.process c.loop-w.w w.in-Some.is in
      let place : c.loop-w.w < length c.loop-w.rows = omega (arith, was_full.0, so_far.rows.count) in
      turn_taken _ _ _ _ _ _ _ c.loop-w.w w.in-Some.process c.loop-w.watches.items c.loop-w.rows w.index_mut.result.now _ _ _ _ w.in-Some.is there place
      (slice_get_read _ _ _ _ refl there w.index_mut.ensures.value)
      (record { fed = w.feed_row.ensures.fed; size = w.feed_row.ensures.full ∙ sym (so_far.rows.size c.loop-w.w ∙ was_full.1); kept = w.feed_row.ensures.kept; same_name = refl })
      (ap (λ v. v.items) w.watches-is) (w.rows-is ∙ w.feed_row.ensures.others) so_far
  | in_default w ↦ turn_passes _ _ _ _ _ _ _ _ _ _ _ _ w.in_default.is (ap (λ v. v.items) w.watches-is) w.rows-is c.loop-w.invariant
]
