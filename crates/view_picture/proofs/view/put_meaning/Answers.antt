use Rattle.std.proofs.Common.{◌≡◌, ◌++◌, subst}
use Rattle.std.specs.Prelude.{OnOk}
use Rattle.event_log.specs.States.{StatesView}
use Rattle.view_parts.proofs.Each.{puts_more, puts_last}
use Rattle.view_picture.specs.Picture.{legend, edges_legend, ties_legend, note_of}
use Rattle.view_picture.proofs.view.put_meaning.Goals as goal

pub returns : goal.returns
returns c =
    let out = c.args.out.now in
    let s = c.args.run.now.trace.now.states in
    let f = c.args.run.now.frame.now in
    let rows = c.args.run.now.columns.now in
    let a0 = legend f in
    let a1 = edges_legend f c.args.edges in
    let a2 = ties_legend f c.args.ties in
    let a3 = note_of s rows in
    let f0 : c.put_legend.new.out ≡ out ++ a0 = c.in_ok-put_legend.ensures in
    let f1 : c.put_edges_legend.new.out ≡ out ++ (a0 ++ a1) = puts_more out a0 a1 c.put_legend.new.out c.put_edges_legend.new.out f0 c.in_ok-put_edges_legend.ensures in
    let f2 : c.put_ties_legend.new.out ≡ out ++ (a0 ++ a1 ++ a2) = puts_more out (a0 ++ a1) a2 c.put_edges_legend.new.out c.put_ties_legend.new.out f1 c.in_ok-put_ties_legend.ensures in
    puts_last c.put_note.result out (a0 ++ a1 ++ a2) a3 c.put_ties_legend.new.out c.put_note.new.out f2
    (subst (λ (v : StatesView). OnOk c.put_note.result (c.put_note.new.out ≡ c.put_ties_legend.new.out ++ note_of v rows)) c.states.ensures.states c.put_note.ensures)
