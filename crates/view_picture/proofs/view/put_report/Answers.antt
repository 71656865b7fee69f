use Rattle.std.proofs.Common.{◌≡◌, ◌++◌, List, ℕ, length, map, take, ap, sym, subst, ◌∙◌, arith}
use Rattle.std.specs.Prelude.{OnOk, Option, IfSome}
use Rattle.std.specs.List.{flat_map}
use Rattle.std.specs.Option.{option_copied}
use Rattle.run_model.specs.Cut.{Cut}
use Rattle.pota_base.specs.declared.shape.EventId.{EventId}
use Rattle.event_log.specs.States.{StatesView}
use Rattle.slice_graph.specs.declared.edges.Edge.{Edge}
use Rattle.report_lines.specs.declared.kinds.WitnessText.{WitnessText}
use Rattle.view_parts.proofs.Each.{puts_more, puts_last}
use Rattle.view_picture.specs.Told.{most_edges, top_of, edges_of, first_drawn}
use Rattle.view_picture.specs.Shown.{shown_events}
use Rattle.view_picture.specs.Drawing.{edge_drawn, mark}
use Rattle.view_picture.specs.inside.Drawing.{HasFewProcesses}
use Rattle.view_picture.specs.Picture.{slice_drawn, one_drawn}
use Rattle.view_picture.proofs.Drawn.{few_drawn}
use Rattle.view_picture.proofs.view.put_report.Goals as goal

pub put_one-requires-clause-few : goal.put_one-requires-clause-few
put_one-requires-clause-few c =
    let r = c.args.report.now in
    subst (λ (o : Option WitnessText). IfSome o (λ (w : WitnessText). HasFewProcesses w.witness)) (sym (c.first_drawn.ensures ∙ ap first_drawn c.as_slice.ensures))
    (few_drawn r.lengths r.witnesses (omega (arith, c.requires.formed.run.lengths.width, c.requires.formed.run.procs.few)) c.requires.formed.witnesses)

pub returns : goal.returns
returns c =
    let out = c.args.out.now in
    let s = c.args.run.now.trace.now.states in
    let f = c.args.run.now.frame.now in
    let rows = c.args.run.now.columns.now in
    let r = c.args.report.now in
    let given = c.args.run.now.shown.now in
    let shown = shown_events (map length s.events) rows in
    let a0 = flat_map (edge_drawn f rows) (take most_edges (edges_of r.slice)) in
    let a1 = slice_drawn f rows r.slice in
    let a2 = one_drawn f rows (first_drawn r.witnesses) in
    let a3 = flat_map (mark s f rows (top_of r.slice)) shown in
    let f0 : c.put_edges.new.out ≡ out ++ a0 = c.in_ok-put_edges.ensures ∙ ap (λ (es : List Edge). out ++ flat_map (edge_drawn f rows) (take most_edges es)) c.edges_of.ensures in
    let f1 : c.put_slice.new.out ≡ out ++ (a0 ++ a1) = puts_more out a0 a1 c.put_edges.new.out c.put_slice.new.out f0 c.in_ok-put_slice.ensures in
    let f2 : c.put_one.new.out ≡ out ++ (a0 ++ a1 ++ a2) = puts_more out (a0 ++ a1) a2 c.put_slice.new.out c.put_one.new.out f1
    (c.in_ok-put_one.ensures ∙ ap (λ (o : Option WitnessText). c.put_slice.new.out ++ one_drawn f rows o) (c.first_drawn.ensures ∙ ap first_drawn c.as_slice.ensures)) in
    let marked : flat_map (mark c.states.result.now f rows (option_copied c.top_of.result)) given ≡ a3 =
    ap (λ (v : StatesView). flat_map (mark v f rows (option_copied c.top_of.result)) given) c.states.ensures.states ∙ ap (λ (t : Option Cut). flat_map (mark s f rows t) given) c.top_of.ensures
    ∙ ap (λ (es : List EventId). flat_map (mark s f rows (top_of r.slice)) es) c.requires.shown in
    puts_last c.put_marks.result out (a0 ++ a1 ++ a2) a3 c.put_one.new.out c.put_marks.new.out f2 (subst (λ (x : List ℕ). OnOk c.put_marks.result (c.put_marks.new.out ≡ c.put_one.new.out ++ x)) marked c.put_marks.ensures)
