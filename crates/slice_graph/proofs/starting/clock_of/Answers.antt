use Rattle.std.proofs.Common.{◌≡◌, ℕ, ◌∙◌, List, ap, sym, subst}
use Rattle.pota_base.specs.Shape.{HasEvent, row_of}
use Rattle.pota_base.specs.declared.shape.EventId.{EventId}
use Rattle.run_model.specs.Cut.{lengths}
use Rattle.run_model.specs.Consistent.{clock}
use Rattle.slice_graph.proofs.Events.{rows_apart}
use Rattle.slice_graph.proofs.starting.clock_of.Goals as goal

pub returns-in-Some-clause-event : goal.returns-in-Some-clause-event
returns-in-Some-clause-event c =
    let here : HasEvent (lengths c.args.order.now) c.in-Some.event = subst (λ (lens : List ℕ). HasEvent lens c.in-Some.event) c.shape.ensures.lens c.in-Some.ensures.there in
    let row : row_of (lengths c.args.order.now) c.in-Some.event ≡ c.args.row = sym (ap (λ (lens : List ℕ). row_of lens c.in-Some.event) c.shape.ensures.lens) ∙ c.in-Some.ensures.row in
    λ e there at. c.clock.ensures.clock
    ∙ ap (λ (x : EventId). clock c.args.order.now x.process x.position) (rows_apart (lengths c.args.order.now) c.in-Some.event e here there (row ∙ sym at))
