use Rattle.std.proofs.Common.{◌≡◌, ◌+◌, List, ℕ, length, sum, ap, subst, ◌∙◌, arith}
use Rattle.pota_base.specs.Shape.{HasEvent, row_of}
use Rattle.pota_base.specs.declared.shape.EventId.{EventId}
use Rattle.temporal_slice.proofs.Rows.{first_behind}
use Rattle.temporal_slice.proofs.Shared.{pairs_first, pairs_next, pairs_all}
use Rattle.temporal_slice.proofs.staying_in.least_with_pairs.Goals as goal

pub loop-row-init : goal.loop-row-init
loop-row-init c = record {
  pairs = pairs_first c.args.order.now c.args.child.now c.requires.fits c.requires.last c.words.result.now c.set_words.new.into c.words.ensures.words c.set_words.ensures;
  process = omega (arith, ap (λ (e : EventId). e.process) c.before_all-before.ensures, c.shape-shape-2.ensures.rows.cuts.shape.some);
  behind = first_behind c.args.child.now.lens c.before_all-before.result c.before_all-before.ensures;
}

pub loop-row-preserved : goal.loop-row-preserved
loop-row-preserved c =
    let own = subst (λ (ls : List ℕ). HasEvent ls c.event_behind-event.result) c.shape-shape-2.ensures.lens c.event_behind-event.ensures.there in
    let here : row_of c.args.child.now.lens c.event_behind-event.result ≡ c.loop-row.row =
    subst (λ (ls : List ℕ). row_of ls c.event_behind-event.result ≡ c.loop-row.row) c.shape-shape-2.ensures.lens c.event_behind-event.ensures.row in
    record {
      pairs = pairs_next c.args.order.now c.shape-shape.ensures.order c.args.child.now c.requires.fits c.requires.last c.loop-row.row c.event_behind-event.result c.loop-row.least c.join_shared.new.into
          c.loop-row.invariant.pairs (subst (λ (ls : List ℕ). HasEvent ls c.event_behind-event.result) c.requires.fits.shape own)
          (subst (λ (ls : List ℕ). row_of ls c.event_behind-event.result ≡ c.loop-row.row) c.requires.fits.shape here) c.join_shared.ensures.joined;
      process = omega (arith, own.process);
      behind = omega (arith, here);
    }

pub returns : goal.returns
returns c = pairs_all c.args.order.now c.args.child.now c.requires.fits c.requires.last c.loop-row.row c.loop-row.least
    (omega (arith, c.loop-row-test.false, c.events-row-end.ensures.count, ap sum c.shape-shape-2.ensures.lens, ap sum c.requires.fits.shape)) c.loop-row.invariant.pairs
