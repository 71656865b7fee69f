use Rattle.std.proofs.Common.{◌≡◌, ℕ, length, sum, refl, sym, ap, subst, ◌∙◌, arith}
use Rattle.std.specs.List.{AllByRecursion}
use Rattle.run_model.specs.Cut.{Clocks, lengths}
use Rattle.run_model.proofs.Counts.{length-lengths}
use Rattle.vector_clock.specs.Events.{EventFits}
use Rattle.layer_rows.proofs.slice_running.clocks_of.Goals as goal

pub admit-requires : goal.admit-requires
admit-requires c =
    let procs : c.procs.result ≡ length c.in_ok-clocks.clocks.order =
    c.procs.ensures.count ∙ ap length c.shape-shape.ensures.lens ∙ length-lengths c.order.result.now ∙ ap length c.order.ensures in
    record {
      each = subst (λ (n : ℕ). AllByRecursion (EventFits n) c.args.events.now) procs (c.if-not-events_fit.ensures refl);
      few = omega (arith, c.if-events-before.false, c.events-before.ensures.count, ap sum c.shape-shape.ensures.lens, ap (λ (o : Clocks). sum (lengths o)) c.order.ensures);
    }
