use Rattle.std.proofs.Common.{◌≡◌, ◌++◌, ◌∷◌, [], List, sym, ap, ◌∙◌}
use Rattle.std.proofs.lemmas.List.{append-nil}
use Rattle.pota_base.specs.declared.shape.EventId.{EventId}
use Rattle.run_model.specs.Cut.{Clocks}
use Rattle.slice_graph.specs.declared.edges.Edge.{Edge}
use Rattle.view_parts.proofs.Each.{puts_each}
use Rattle.view_picture.specs.Ties.{last_known, tie_from}
use Rattle.view_picture.proofs.Places.{of_clocks}
use Rattle.view_picture.proofs.Tied.{a_tie, no_tie}
use Rattle.view_picture.proofs.ties.put_ties_to.Goals.{then-is_tied+in_ok-push, else-is_tied}
use Rattle.view_picture.proofs.ties.put_ties_to.Goals as goal

pub last_known-requires-clause-there : goal.last_known-requires-clause-there
last_known-requires-clause-there c = of_clocks c.order.result.now c.args.trace.now.states.events c.args.event c.order.ensures.order c.requires.there

pub loop-process-preserved : goal.loop-process-preserved
loop-process-preserved c =
    let s = c.args.trace.now.states in
    let rows = c.args.columns.now in
    let e = c.args.event in
    let p = c.loop-process.process in
    let put : c.if-is_tied.ties ≡ c.loop-process.ties ++ tie_from s rows e p = elim c.if-is_tied.branch [
      | then-is_tied+in_ok-push w ↦
          w.ties-is ∙ w.in_ok-push.ensures.ok ∙ ap (λ (f : EventId). c.loop-process.ties ++ record { cause = f; effect = e } ∷ []) (w.last_known.ensures.last ∙ ap (λ (o : Clocks). last_known o rows e p) w.order.ensures.order)
          ∙ ap (λ (l : List Edge). c.loop-process.ties ++ l) (sym (a_tie s rows e p (sym c.is_tied.ensures ∙ w.if-is_tied.true)))
      | else-is_tied w ↦ w.ties-is ∙ sym (append-nil c.loop-process.ties) ∙ ap (λ (l : List Edge). c.loop-process.ties ++ l) (sym (no_tie s rows e p (sym c.is_tied.ensures ∙ w.if-is_tied.false)))
    ] in
    puts_each (tie_from s rows e) c.args.ties.now c.loop-process.ties c.if-is_tied.ties p c.loop-process.invariant put
