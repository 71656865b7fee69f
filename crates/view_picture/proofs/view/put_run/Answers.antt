use Rattle.std.proofs.Common.{◌≡◌, ◌++◌, List, length, map, ap, subst, ◌∙◌}
use Rattle.std.specs.Prelude.{OnOk}
use Rattle.std.specs.List.{flat_map}
use Rattle.pota_base.specs.declared.shape.EventId.{EventId}
use Rattle.event_log.specs.States.{StatesView}
use Rattle.slice_graph.specs.declared.edges.Edge.{Edge}
use Rattle.view_parts.specs.Each.{each_below}
use Rattle.view_parts.proofs.Each.{puts_more, puts_last}
use Rattle.view_picture.specs.Shown.{shown_events}
use Rattle.view_picture.specs.Ties.{ties_of}
use Rattle.view_picture.specs.Drawing.{lane_drawn, tie_drawn, arrow_to, lost_from, numbers_drawn, left_out_drawn}
use Rattle.view_picture.proofs.view.put_run.Goals as goal

pub returns : goal.returns
returns c =
    let out = c.args.out.now in
    let s = c.args.run.now.trace.now.states in
    let f = c.args.run.now.frame.now in
    let rows = c.args.run.now.columns.now in
    let shown = shown_events (map length s.events) rows in
    let a0 = each_below (length s.header.procs) (lane_drawn s f rows) in
    let a1 = flat_map (tie_drawn f rows) (ties_of s rows) in
    let a2 = flat_map (arrow_to s f rows) shown in
    let a3 = flat_map (lost_from s f rows) shown in
    let a4 = numbers_drawn s f rows in
    let a5 = left_out_drawn s f rows in
    let f0 : c.put_lanes.new.out ≡ out ++ a0 = c.in_ok-put_lanes.ensures ∙ ap (λ (v : StatesView). out ++ each_below (length v.header.procs) (lane_drawn v f rows)) c.states-states.ensures.states in
    let f1 : c.put_ties.new.out ≡ out ++ (a0 ++ a1) = puts_more out a0 a1 c.put_lanes.new.out c.put_ties.new.out f0 (c.in_ok-put_ties.ensures ∙ ap (λ (es : List Edge). c.put_lanes.new.out ++ flat_map (tie_drawn f rows) es) c.requires.ties) in
    let f2 : c.put_arrows.new.out ≡ out ++ (a0 ++ a1 ++ a2) = puts_more out (a0 ++ a1) a2 c.put_ties.new.out c.put_arrows.new.out f1 (c.in_ok-put_arrows.ensures ∙ ap (λ (es : List EventId). c.put_ties.new.out ++ flat_map (arrow_to s f rows) es) c.requires.shown) in
    let f3 : c.put_lost.new.out ≡ out ++ (a0 ++ a1 ++ a2 ++ a3) = puts_more out (a0 ++ a1 ++ a2) a3 c.put_arrows.new.out c.put_lost.new.out f2
    (c.in_ok-put_lost.ensures ∙ ap (λ (v : StatesView). c.put_arrows.new.out ++ flat_map (lost_from v f rows) c.args.run.now.shown.now) c.states-states.ensures.states ∙ ap (λ (es : List EventId). c.put_arrows.new.out ++ flat_map (lost_from s f rows) es) c.requires.shown) in
    let f4 : c.put_numbers.new.out ≡ out ++ (a0 ++ a1 ++ a2 ++ a3 ++ a4) = puts_more out (a0 ++ a1 ++ a2 ++ a3) a4 c.put_lost.new.out c.put_numbers.new.out f3 c.in_ok-put_numbers.ensures in
    puts_last c.put_left_out.result out (a0 ++ a1 ++ a2 ++ a3 ++ a4) a5 c.put_numbers.new.out c.put_left_out.new.out f4
    (subst (λ (v : StatesView). OnOk c.put_left_out.result (c.put_left_out.new.out ≡ c.put_numbers.new.out ++ left_out_drawn v f rows)) c.states-states.ensures.states c.put_left_out.ensures)
